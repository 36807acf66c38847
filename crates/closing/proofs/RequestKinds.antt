-- A cell of the home acts on a request of any kind.
use Rattle.std.proofs.Common.{◌≡◌, ℕ, ◌≤◌, refl, ap, sym, subst, ◌∙◌, Option, Some, None, Bool, true, false, ◌==◌, if◌then◌else◌, ◌&&◌, slice_get}
use Rattle.base.specs.declared.ids.CacheId.{CacheId}
use Rattle.base.specs.declared.controller.entry.CellEntry.TheVariants as table_entry
use Rattle.network.specs.declared.message.Request.{Request}
use Rattle.network.specs.declared.message.RequestKind.{RequestKind}
use Rattle.network.specs.declared.message.RequestKind.TheVariants as request
use Rattle.directory_table.specs.declared.event.DirectoryEvent.TheVariants as home_event
use Rattle.directory_table.specs.Table as directory_table
use Rattle.tables.specs.Tables.{Tables}
use Rattle.control.specs.declared.home.HomeInput.TheVariants as home_input
use Rattle.control.specs.HomeEvents.{request_event, owns}
use Rattle.control.specs.HomeEffect.{value_in}
use Rattle.control.specs.Sharing.{shares, others_from}
use Rattle.machine.specs.Block.{BlockState, IsBlockAmong}
use Rattle.machine.specs.declared.decision.Decision.TheVariants.{AtHome}
use Rattle.machine.specs.declared.decision.Origin.TheVariants as origin
use Rattle.machine.specs.Transition.{carried_out}
use Rattle.pairs.specs.declared.side.Owned.TheVariants.{ByItself, ByAnother}
use Rattle.pairs.specs.declared.steps.Rule.TheVariants.{SentGetS, SentGetM, SentPutS, SentPutM}
use Rattle.pairs.specs.Sights.{is_owner}
use Rattle.closing.proofs.Alpha.{Tags, side, owned_in, Faithful}
use Rattle.closing.proofs.Simulation.{HomeActs, SimulatedBy}
use Rattle.closing.proofs.HomeActing.{Matches}
use Rattle.closing.proofs.RequestTaken.{gets-reaches, getm-reaches, puts-reaches, putm-reaches, putm-true, puts_event, putm_event}
use Rattle.closing.proofs.RequestActs.{served}
use Rattle.closing.proofs.Sending.{not-twice}

owner-if : (t : Bool) → is_owner (if t then ByItself else ByAnother) ≡ t
owner-if true = refl
owner-if false = refl

pub same-owner : (o : Option CacheId) (c : CacheId) → is_owner (owned_in o c.0) ≡ owns o c
same-owner None c = refl
same-owner (Some o) c = owner-if (o.0 == c.0)

pub request-acted : (tables : Tables) (caches : ℕ) (tags : Tags) (b : BlockState) (index : ℕ) (r : Request) → caches ≤ 4294967296 → IsBlockAmong caches b →
    Faithful tags b → Some r ≡ slice_get b.traffic.requests index → HomeActs tables tags b (home_input.Request r) (origin.Request index)
request-acted tables caches tags b index r few whole faithful e next actions cell = at r.kind refl
  where
    with-kind : (kind : RequestKind) → r.kind ≡ kind →
        directory_table.cell tables.directory b.home.state (request_event b.home.owner b.home.sharers kind r.from) ≡ table_entry.Act next actions
    with-kind kind same =
        subst (λ (k : RequestKind). directory_table.cell tables.directory b.home.state (request_event b.home.owner b.home.sharers k r.from) ≡ table_entry.Act
        next actions) same cell

    matches : (kind : RequestKind) (value : Option Bool) → r.kind ≡ kind → Matches value (value_in kind) b.latest → Matches value (value_in r.kind) b.latest
    matches kind value same m = subst (λ (k : RequestKind). Matches value (value_in k) b.latest) (sym same) m

    at : (kind : RequestKind) → r.kind ≡ kind → SimulatedBy tables tags b (carried_out (AtHome (home_input.Request r) next actions (origin.Request index)) b)
    at request.GetS same =
        served tables caches tags b index r few whole faithful e None (matches request.GetS None same tt) next actions SentGetS home_event.GetS
        (with-kind request.GetS same) (λ x t ne. gets-reaches tags b index r e tables x t ne same)
    at request.GetM same =
        served tables caches tags b index r few whole faithful e None (matches request.GetM None same tt) next actions SentGetM home_event.GetM
        (with-kind request.GetM same) (λ x t ne. getm-reaches tags b index r e tables x t ne same)
    at request.PutS same =
        served tables caches tags b index r few whole faithful e None (matches request.PutS None same tt) next actions SentPutS
        (puts_event (side tags b r.from.0))
        (ap (λ (u : Bool). directory_table.cell tables.directory b.home.state (if u then home_event.PutSLast else home_event.PutSNotLast))
        (ap (λ (u : Bool). shares b.home.sharers r.from.0 && u) (not-twice (others_from 0 r.from.0 b.home.sharers == 0))) ∙ with-kind request.PutS same)
        (λ x t ne. puts-reaches tags b index r e tables x t ne same)
    at (request.PutM value) same =
        served tables caches tags b index r few whole faithful e (Some (side tags b r.from.0).fresh_putm)
        (matches (request.PutM value) (Some (side tags b r.from.0).fresh_putm) same (putm-true tags b index r e value faithful.tags_are_true same)) next actions
        SentPutM
        (putm_event (side tags b r.from.0))
        (ap (λ (u : Bool). directory_table.cell tables.directory b.home.state (if u then home_event.PutMOwner else home_event.PutMNonOwner))
        (same-owner b.home.owner r.from) ∙ with-kind (request.PutM value) same)
        (λ x t ne. putm-reaches tags b index r e tables value x t ne same)
