-- Restrained tables keep the invariant that safety needs.
use Rattle.std.proofs.Common.{inl, ℕ, ◌≤◌, List, refl, if◌then◌else◌, Option, Some, None, Bool, true, false, slice_get}
use Rattle.base.specs.declared.ids.CacheId.{CacheId}
use Rattle.base.specs.declared.controller.protocol.Protocol.{Protocol}
use Rattle.base.specs.declared.ids.Place.TheVariants.{Dir, Cache}
use Rattle.base.specs.declared.step.Ask.{Ask}
use Rattle.base.specs.declared.step.Step.{Step}
use Rattle.base.specs.declared.step.Step.TheVariants as step
use Rattle.network.specs.declared.message.Request.{Request}
use Rattle.network.specs.declared.message.Forward.{Forward}
use Rattle.network.specs.declared.message.Response.{Response}
use Rattle.network.specs.declared.message.Response.TheVariants.{Data, InvAck, DataExcl}
use Rattle.network.specs.Traffic.{link}
use Rattle.control.specs.declared.line.Line.{Line}
use Rattle.control.specs.declared.line.LineInput.{LineInput}
use Rattle.control.specs.declared.line.LineInput.TheVariants as line_input
use Rattle.control.specs.declared.home.Home.{Home}
use Rattle.control.specs.declared.home.HomeInput.{HomeInput}
use Rattle.control.specs.declared.home.HomeInput.TheVariants as home_input
use Rattle.control.specs.LineEvents.{event_at_line}
use Rattle.control.specs.HomeEvents.{event_at_home}
use Rattle.machine.specs.declared.decision.Origin.{Origin}
use Rattle.machine.specs.declared.decision.Origin.TheVariants as origin
use Rattle.machine.specs.declared.decision.Decision.{Decision}
use Rattle.tables.specs.Tables.{Tables, baseline_of}
use Rattle.machine.specs.Block.{BlockState}
use Rattle.machine.specs.Transition.{Transition, transition, decision_of, at_line, at_home, at_ask, at_request, at_forward, at_response, is_idle}
use Rattle.machine.specs.Restraint.{AreRestrained}
use Rattle.machine.proofs.Sound.{Sound, Fine}
use Rattle.machine.proofs.Values.{Valued}
use Rattle.machine.proofs.LineValues.{Right, FitsLatest}
use Rattle.machine.proofs.Plain.{Plain}
use Rattle.machine.proofs.Own.{own-fine, own-right, own-ranked, own-plain}
use Rattle.machine.proofs.SingleWriter.{sound-single}
use Rattle.machine.proofs.Invariant.{Keeps, guards}
use Rattle.machine.proofs.Runs.{Guards}
use Rattle.machine.proofs.Ranks.{Ranked}
use Rattle.machine.proofs.Restraining.{Decides, line-decides, home-decides, as-decided}

-- a transition keeps the invariant, meets no blank cell, and answers by the latest value
pub record Passes (p : Protocol) (n : ℕ) (b : BlockState) (t : Transition) : Type 0 where
  pub fine : Fine n t
  pub right : Right b t
  pub plain : Plain p t.block
  pub order : Ranked b → Ranked t.block

-- a line's input goes as under the own tables, is held, or meets a cell that is blank there
line-goes : (tables : Tables) (cache : CacheId) (input : LineInput) (from : Origin) (found : Option Line) → AreRestrained tables →
    Decides (at_line (baseline_of tables.protocol).cache cache input from found) (at_line tables.cache cache input from found)
line-goes tables cache input from None r = inl refl
line-goes tables cache input from (Some line) r =
    line-decides _ _ cache line input from (r.cache line.state (event_at_line line.acks input))

home-goes : (tables : Tables) (home : Home) (input : HomeInput) (from : Origin) → AreRestrained tables →
    Decides (at_home (baseline_of tables.protocol).directory input from home) (at_home tables.directory input from home)
home-goes tables home input from r = home-decides _ _ input from (r.directory home.state (event_at_home home.owner home.sharers input))

if-goes : (test : Bool) (x own d : Decision) → Decides own d → Decides (if test then x else own) (if test then x else d)
if-goes true x own d h = inl refl
if-goes false x own d h = h

ask-goes : (tables : Tables) (cache : CacheId) (a : Ask) (found : Option Line) → AreRestrained tables →
    Decides (at_ask (baseline_of tables.protocol).cache cache a found) (at_ask tables.cache cache a found)
ask-goes tables cache a None r = inl refl
ask-goes tables cache a (Some line) r = if-goes (is_idle a line.state) _ _ _ (line-goes tables cache (line_input.Ask a) origin.Core (Some line) r)

request-goes : (tables : Tables) (i : ℕ) (home : Home) (found : Option Request) → AreRestrained tables →
    Decides (at_request (baseline_of tables.protocol).directory i home found) (at_request tables.directory i home found)
request-goes tables i home None r = inl refl
request-goes tables i home (Some m) r = home-goes tables home (home_input.Request m) (origin.Request i) r

forward-goes : (tables : Tables) (cache : CacheId) (lines : List Line) (found : Option Forward) → AreRestrained tables →
    Decides (at_forward (baseline_of tables.protocol).cache cache lines found) (at_forward tables.cache cache lines found)
forward-goes tables cache lines None r = inl refl
forward-goes tables cache lines (Some m) r = line-goes tables cache (line_input.Forward m) (origin.Head cache) (slice_get lines cache.0) r

response-goes : (tables : Tables) (i : ℕ) (b : BlockState) (found : Option Response) → AreRestrained tables →
    Decides (at_response (baseline_of tables.protocol) i b found) (at_response tables i b found)
response-goes tables i b None r = inl refl
response-goes tables i b (Some (Data from Dir value acks)) r = home-goes tables b.home (home_input.Data value) (origin.Response i) r
response-goes tables i b (Some (Data from (Cache to) value acks)) r =
    line-goes tables to (line_input.Response (Data from (Cache to) value acks)) (origin.Response i) (slice_get b.lines to.0) r
response-goes tables i b (Some (InvAck from to)) r =
    line-goes tables to (line_input.Response (InvAck from to)) (origin.Response i) (slice_get b.lines to.0) r
response-goes tables i b (Some (DataExcl to value)) r =
    line-goes tables to (line_input.Response (DataExcl to value)) (origin.Response i) (slice_get b.lines to.0) r

step-goes : (tables : Tables) (s : Step) (b : BlockState) → AreRestrained tables →
    Decides (decision_of (baseline_of tables.protocol) s b) (decision_of tables s b)
step-goes tables (step.Ask cache block a) b r = ask-goes tables cache a (slice_get b.lines cache.0) r
step-goes tables (step.Request block i) b r = request-goes tables i b.home (slice_get b.traffic.requests i) r
step-goes tables (step.Forward block cache) b r = forward-goes tables cache b.lines (slice_get (link b.traffic cache.0) 0) r
step-goes tables (step.Response block i) b r = response-goes tables i b (slice_get b.traffic.responses i) r

pub step-passes : (n : ℕ) (tables : Tables) (s : Step) (b : BlockState) → AreRestrained tables → Sound n b → Valued b → Plain tables.protocol b →
    Passes tables.protocol n b (transition tables s b)
step-passes n tables s b r h v k =
    let p : Protocol = tables.protocol in
    as-decided (Passes p n b) b (decision_of (baseline_of p) s b) (decision_of tables s b) (step-goes tables s b r)
    (record { fine = own-fine p n s b h k; right = own-right p n s b h v k; plain = own-plain p s b k; order = λ o. own-ranked p n s b h o k })
    (record { fine = record { sound = h; met = λ x. absurd (cc) }; right = record { valued = v; fits = refl }; plain = k; order = λ o. o })
    (own-fine p n s b h k).met

-- the invariant that safety needs
pub record Holding (p : Protocol) (n : ℕ) (b : BlockState) : Type 0 where
  pub sound : Sound n b
  pub valued : Valued b
  pub plain : Plain p b

pub restrained-guards : (tables : Tables) (n : ℕ) → AreRestrained tables → n ≤ 4294967296 → Guards (Holding tables.protocol n) tables n
restrained-guards tables n r few =
    let p : Protocol = tables.protocol in
    let g : Guards (Keeps p n) (baseline_of p) n = guards p n few in
    record {
      at_first = λ value. let k : Keeps p n _ = g.at_first value in record { sound = k.sound; valued = k.valued; plain = k.plain };
      kept =
          λ s b h. let x : Passes p n b (transition tables s b) = step-passes n tables s b r h.sound h.valued h.plain in
          record { sound = x.fine.sound; valued = x.right.valued; plain = x.plain };
      single = λ b h. sound-single n b h.sound;
      unmet = λ s b h. (step-passes n tables s b r h.sound h.valued h.plain).fine.met;
    }

pub restrained-fits : (tables : Tables) (n : ℕ) → AreRestrained tables → (s : Step) (b : BlockState) → Holding tables.protocol n b →
    FitsLatest (transition tables s b).outcome b.latest (transition tables s b).block.latest
restrained-fits tables n r s b h = (step-passes n tables s b r h.sound h.valued h.plain).right.fits
