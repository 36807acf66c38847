-- Whom a decision answers has a line that is kept.
use Rattle.std.proofs.Common.{◌≡◌, ℕ, List, [], ◌∷◌, Option, Some, None, Bool}
use Rattle.std.proofs.Common.{true, false, if◌then◌else◌, slice_get, zero, suc, refl, subst, sym}
use Rattle.base.specs.declared.ids.CacheId.{CacheId}
use Rattle.base.specs.declared.ids.Place.TheVariants.{Dir, Cache}
use Rattle.base.specs.declared.step.Ask.{Ask}
use Rattle.base.specs.declared.step.Step.{Step}
use Rattle.base.specs.declared.step.Step.TheVariants as step
use Rattle.network.specs.declared.message.Request.{Request}
use Rattle.network.specs.declared.message.Forward.{Forward}
use Rattle.network.specs.declared.message.ForwardKind.{ForwardKind}
use Rattle.network.specs.declared.message.ForwardKind.TheVariants as forward
use Rattle.network.specs.declared.message.Response.{Response}
use Rattle.network.specs.declared.message.Response.TheVariants.{Data, InvAck, DataExcl}
use Rattle.network.specs.Traffic.{link}
use Rattle.cache_table.specs.Table.{CacheEntry}
use Rattle.cache_table.specs.declared.state.CacheState.{CacheState}
use Rattle.cache_table.specs.declared.actions.CacheAction.{CacheAction}
use Rattle.base.specs.declared.controller.entry.CellEntry.TheVariants as table_entry
use Rattle.cache_table.specs.Table as cache_table
use Rattle.directory_table.specs.Table.{DirectoryEntry}
use Rattle.directory_table.specs.Table as directory_table
use Rattle.control.specs.declared.line.Line.{Line}
use Rattle.control.specs.declared.line.LineInput.{LineInput}
use Rattle.control.specs.declared.line.LineInput.TheVariants as line_input
use Rattle.control.specs.declared.home.Home.{Home}
use Rattle.control.specs.declared.home.HomeInput.{HomeInput}
use Rattle.control.specs.declared.home.HomeInput.TheVariants as home_input
use Rattle.control.specs.LineEvents.{event_at_line}
use Rattle.control.specs.HomeEvents.{event_at_home}
use Rattle.control.specs.HomeEffect.{sender_of}
use Rattle.control.specs.LineEffect.{forward_requestor, requestor_of}
use Rattle.machine.specs.declared.decision.Origin.{Origin}
use Rattle.machine.specs.declared.decision.Origin.TheVariants as origin
use Rattle.machine.specs.declared.decision.Decision.{Decision}
use Rattle.machine.specs.declared.decision.Decision.TheVariants.{AtLine}
use Rattle.tables.specs.Tables.{Tables}
use Rattle.machine.specs.Block.{BlockState}
use Rattle.machine.specs.Transition.{by_line_entry, by_home_entry, at_line, at_home, at_ask, at_request, at_forward, at_response, decision_of, is_idle}
use Rattle.blocks.specs.View.{wakes_line}
use Rattle.blocks.specs.inner.Lined.{kept_lines, lines_of}
use Rattle.blocks.specs.inner.Named.{Each, IsKept, IsKeptIf, NamesOnLink, NamesReceiver, NamesSender, TrafficNames, DecisionNames}
use Rattle.blocks.proofs.Lines.{line-kept_unless}

Each-get : {X : Type 0} (P : X → Type 0) (xs : List X) (i : ℕ) (x : X) → Each P xs → Some x ≡ slice_get xs i → P x
Each-get P [] i x h e = absurd (cc e)
Each-get P (y ∷ ys) zero x h e = let s : x ≡ y = cc e in subst P (sym s) h.0
Each-get P (y ∷ ys) (suc i) x h e = Each-get P ys i x h.1 e

-- the cache that a cell acts at has a kept line, but where it is woken
abbrev KeptUnless : List Bool → CacheId → Line → LineInput → Origin → Type 0
KeptUnless lines cache line input from =
    (next : CacheState) (actions : List CacheAction) → wakes_line (AtLine cache line input next actions from) ≡ false → IsKept lines cache.0

line_entry-names : (lines : List Bool) (x : CacheEntry) (cache : CacheId) (line : Line) (input : LineInput) (from : Origin) →
    IsKeptIf lines (requestor_of input) → KeptUnless lines cache line input from → DecisionNames lines (by_line_entry x cache line input from)
line_entry-names lines table_entry.Blank cache line input from r k = tt
line_entry-names lines table_entry.Stall cache line input from r k = tt
line_entry-names lines (table_entry.Act next actions) cache line input from r k = (r, k next actions)

home_entry-names : (lines : List Bool) (x : DirectoryEntry) (input : HomeInput) (from : Origin) → IsKeptIf lines (sender_of input) →
    DecisionNames lines (by_home_entry x input from)
home_entry-names lines table_entry.Blank input from s = tt
home_entry-names lines table_entry.Stall input from s = tt
home_entry-names lines (table_entry.Act next actions) input from s = s

line-names : (lines : List Bool) (cells : cache_table.Cells) (cache : CacheId) (input : LineInput) (from : Origin) (found : Option Line) →
    IsKeptIf lines (requestor_of input) → ((line : Line) → Some line ≡ found → KeptUnless lines cache line input from) →
    DecisionNames lines (at_line cells cache input from found)
line-names lines cells cache input from None r k = tt
line-names lines cells cache input from (Some line) r k =
    line_entry-names lines (cache_table.cell cells line.state (event_at_line line.acks input)) cache line input from r (k line refl)

home-names : (lines : List Bool) (cells : directory_table.Cells) (input : HomeInput) (from : Origin) (home : Home) → IsKeptIf lines (sender_of input) →
    DecisionNames lines (at_home cells input from home)
home-names lines cells input from home s =
    home_entry-names lines (directory_table.cell cells home.state (event_at_home home.owner home.sharers input)) input from s

if-names : (lines : List Bool) (test : Bool) (x y : Decision) → DecisionNames lines x → DecisionNames lines y →
    DecisionNames lines (if test then x else y)
if-names lines true x y p q = p
if-names lines false x y p q = q

ask-names : (lines : List Bool) (cells : cache_table.Cells) (cache : CacheId) (ask : Ask) (found : Option Line) →
    ((line : Line) → Some line ≡ found → KeptUnless lines cache line (line_input.Ask ask) origin.Core) →
    DecisionNames lines (at_ask cells cache ask found)
ask-names lines cells cache ask None k = tt
ask-names lines cells cache ask (Some line) k =
    if-names lines (is_idle ask line.state) _ _ tt (line-names lines cells cache (line_input.Ask ask) origin.Core (Some line) tt k)

request-names : (lines : List Bool) (cells : directory_table.Cells) (index : ℕ) (r : Option Request) (b : BlockState) →
    r ≡ slice_get b.traffic.requests index → TrafficNames lines b.traffic → DecisionNames lines (at_request cells index b.home r)
request-names lines cells index None b e n = tt
request-names lines cells index (Some r) b e n =
    home-names lines cells (home_input.Request r) (origin.Request index) b.home
    (Each-get (NamesSender lines) b.traffic.requests index r n.requests e)

requestor-kept : (lines : List Bool) (kind : ForwardKind) (requestor : CacheId) → IsKept lines requestor.0 →
    IsKeptIf lines (forward_requestor kind requestor)
requestor-kept lines forward.FwdGetS requestor h = h
requestor-kept lines forward.FwdGetM requestor h = h
requestor-kept lines forward.Inv requestor h = h
requestor-kept lines forward.PutAck requestor h = tt

forward-names : (lines : List Bool) (cells : cache_table.Cells) (cache : CacheId) (f : Option Forward) (b : BlockState) →
    f ≡ slice_get (link b.traffic cache.0) 0 → TrafficNames lines b.traffic → DecisionNames lines (at_forward cells cache b.lines f)
forward-names lines cells cache None b e n = tt
forward-names lines cells cache (Some f) b e n =
    let names : NamesOnLink lines cache.0 f = Each-get (NamesOnLink lines cache.0) (link b.traffic cache.0) 0 f (n.links cache.0) e in
    line-names lines cells cache (line_input.Forward f) (origin.Head cache) (slice_get b.lines cache.0)
    (requestor-kept lines f.kind f.requestor names.requestor) (λ line s next actions w. names.receiver)

response-names : (lines : List Bool) (tables : Tables) (index : ℕ) (r : Option Response) (b : BlockState) →
    r ≡ slice_get b.traffic.responses index → TrafficNames lines b.traffic → DecisionNames lines (at_response tables index b r)
response-names lines tables index None b e n = tt
response-names lines tables index (Some (Data from Dir value acks)) b e n =
    home-names lines tables.directory (home_input.Data value) (origin.Response index) b.home tt
response-names lines tables index (Some (Data from (Cache to) value acks)) b e n =
    let kept : IsKept lines to.0 = Each-get (NamesReceiver lines) b.traffic.responses index (Data from (Cache to) value acks) n.responses e in
    line-names lines tables.cache to (line_input.Response (Data from (Cache to) value acks)) (origin.Response index) (slice_get b.lines to.0) tt
    (λ line s next actions w. kept)
response-names lines tables index (Some (InvAck from to)) b e n =
    let kept : IsKept lines to.0 = Each-get (NamesReceiver lines) b.traffic.responses index (InvAck from to) n.responses e in
    line-names lines tables.cache to (line_input.Response (InvAck from to)) (origin.Response index) (slice_get b.lines to.0) tt
    (λ line s next actions w. kept)
response-names lines tables index (Some (DataExcl to value)) b e n =
    let kept : IsKept lines to.0 = Each-get (NamesReceiver lines) b.traffic.responses index (DataExcl to value) n.responses e in
    line-names lines tables.cache to (line_input.Response (DataExcl to value)) (origin.Response index) (slice_get b.lines to.0) tt
    (λ line s next actions w. kept)

-- a step answers whom its block names
pub decision-names : (items : List (Option Line)) (tables : Tables) (s : Step) (b : BlockState) → b.lines ≡ lines_of items →
    TrafficNames (kept_lines items) b.traffic → DecisionNames (kept_lines items) (decision_of tables s b)
decision-names items tables (step.Ask cache block ask) b same n =
    ask-names (kept_lines items) tables.cache cache ask (slice_get b.lines cache.0)
    (λ line e next actions w. line-kept_unless items cache.0 line (subst (λ ls. Some line ≡ slice_get ls cache.0) same e) w)
decision-names items tables (step.Request block index) b same n =
    request-names (kept_lines items) tables.directory index (slice_get b.traffic.requests index) b refl n
decision-names items tables (step.Forward block cache) b same n =
    forward-names (kept_lines items) tables.cache cache (slice_get (link b.traffic cache.0) 0) b refl n
decision-names items tables (step.Response block index) b same n =
    response-names (kept_lines items) tables index (slice_get b.traffic.responses index) b refl n
