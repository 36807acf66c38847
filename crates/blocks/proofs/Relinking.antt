-- What a step at a line leaves of the links: all but its own, with their marks.
use Rattle.std.proofs.Common.{◌≡◌, ◌<◌, ◌+◌, ℕ, List, [], ◌∷◌, Bool, Option, None, Some, length, get_or, slice_set, slice_index_or}
use Rattle.std.proofs.Common.{inl, inr, refl, sym, ap, ◌∙◌, arith, zero-add}
use Rattle.std.proofs.lemmas.Bool.{cases_eq}
use Rattle.std.proofs.lemmas.Grind.{get_or-set_at}
use Rattle.std.proofs.lemmas.List.{ext_get_or, get_or-set_other, length-set, set-set}
use Rattle.base.specs.declared.ids.CacheId.{CacheId}
use Rattle.network.specs.declared.message.Forward.{Forward}
use Rattle.network.specs.Traffic.{Traffic, all_sent}
use Rattle.network.proofs.Sending.{all_marks_added-append, all_sent-append}
use Rattle.cache_table.specs.declared.actions.CacheAction.{CacheAction}
use Rattle.cache_table.specs.declared.actions.CacheAction.TheVariants as action
use Rattle.control.specs.LineEffect.{line_message, line_messages}
use Rattle.control.specs.declared.line.Line.{Line}
use Rattle.tables.specs.Tables.{Tables}
use Rattle.blocks.specs.Marking.{link_stalls, links_stall, marks_of}
use Rattle.blocks.specs.inner.Linking.{AreRight, IsAtOwn, IsRelinked}
use Rattle.std.specs.Option.{IfSome}
use Rattle.base.specs.declared.step.Outcome.{Outcome}
use Rattle.control.specs.LineEffect.{line_after}
use Rattle.machine.specs.Block.{BlockState}
use Rattle.machine.specs.Transition.{Transition, carried_out}
use Rattle.machine.specs.declared.decision.Decision.{Decision}
use Rattle.machine.specs.declared.decision.Decision.TheVariants.{Refused, AtLine, AtHome}
use Rattle.blocks.specs.View.{moved_to}
use Rattle.network.specs.Marks.{Marks, all_marks_added}
use Rattle.blocks.proofs.LinkMarks.{links-other, links_stall-at, links_stall-length, links_stall-set}

-- ---- what a line sends goes on no link

message-links : (cache : CacheId) (value : ℕ) (to : Option CacheId) (a : CacheAction) (w : Traffic) →
    (all_sent (line_message cache value to a) w).links ≡ w.links
message-links cache value to action.GetS w = refl
message-links cache value to action.GetM w = refl
message-links cache value to action.PutS w = refl
message-links cache value to action.PutM w = refl
message-links cache value (Some t) action.InvAck w = refl
message-links cache value (Some t) action.DataReq w = refl
message-links cache value None action.InvAck w = refl
message-links cache value None action.DataReq w = refl
message-links cache value to action.DataDir w = refl

pub messages-links : (cache : CacheId) (value : ℕ) (to : Option CacheId) (actions : List CacheAction) (w : Traffic) →
    (all_sent (line_messages cache value to actions) w).links ≡ w.links
messages-links cache value to [] w = refl
messages-links cache value to (a ∷ actions) w =
    ap (λ (t : Traffic). t.links) (all_sent-append (line_message cache value to a) (line_messages cache value to actions) w)
    ∙ messages-links cache value to actions (all_sent (line_message cache value to a) w)
    ∙ message-links cache value to a w

-- and neither do their marks
message-marks : (cache : CacheId) (value : ℕ) (to : Option CacheId) (a : CacheAction) (m : Marks) →
    (all_marks_added (line_message cache value to a) m).links ≡ m.links
message-marks cache value to action.GetS m = refl
message-marks cache value to action.GetM m = refl
message-marks cache value to action.PutS m = refl
message-marks cache value to action.PutM m = refl
message-marks cache value (Some t) action.InvAck m = refl
message-marks cache value (Some t) action.DataReq m = refl
message-marks cache value None action.InvAck m = refl
message-marks cache value None action.DataReq m = refl
message-marks cache value to action.DataDir m = refl

pub messages-marks : (cache : CacheId) (value : ℕ) (to : Option CacheId) (actions : List CacheAction) (m : Marks) →
    (all_marks_added (line_messages cache value to actions) m).links ≡ m.links
messages-marks cache value to [] m = refl
messages-marks cache value to (a ∷ actions) m =
    ap (λ (n : Marks). n.links) (all_marks_added-append (line_message cache value to a) (line_messages cache value to actions) m)
    ∙ messages-marks cache value to actions (all_marks_added (line_message cache value to a) m)
    ∙ message-marks cache value to a m

-- ---- one link is another

-- the marks of the others stay right
pub marks-stay : (tables : Tables) (lines : List Line) (links : List (List Forward)) (marks : List (List Bool)) (cache : ℕ) (line : Line)
    (new_marks : List (List Bool)) (new_links : List (List Forward)) → marks ≡ links_stall tables.cache lines 0 links →
    IsRelinked cache marks links new_marks new_links → AreRight tables (slice_set lines cache line) new_links cache new_marks
marks-stay tables lines links marks cache line new_marks new_links right re =
    let cells = tables.cache in
    let now = slice_index_or new_links cache [] in
    let mine = link_stalls cells (slice_set lines cache line) cache now in
    let old = links_stall cells lines 0 links in
    let new = links_stall cells (slice_set lines cache line) 0 links in
    let as_long : length old ≡ length new = links_stall-length cells lines 0 links ∙ sym (links_stall-length cells (slice_set lines cache line) 0 links) in
    ap (λ ms. slice_set ms cache mine) (re.marks ∙ ap (λ ms. slice_set ms cache (slice_index_or new_marks cache [])) right)
    ∙ set-set old cache (slice_index_or new_marks cache []) mine
    ∙ ext_get_or [] (slice_set old cache mine) (slice_set new cache mine)
    (length-set old cache mine ∙ as_long ∙ sym (length-set new cache mine))
    (λ k within. elim (cases_eq k cache) [
      | inl e ↦
          let there : cache < length old = omega (arith, within, length-set old cache mine) in
          get_or-set_at old cache k mine [] e there ∙ sym (get_or-set_at new cache k mine [] e (omega arith))
      | inr e ↦
          get_or-set_other old cache k mine [] e
          ∙ links_stall-at cells lines 0 links k
          ∙ sym (links-other cells lines cache line (0 + k) (get_or links k []) (λ q. e (sym (zero-add k) ∙ q)))
          ∙ sym (links_stall-at cells (slice_set lines cache line) 0 links k)
          ∙ sym (get_or-set_other new cache k mine [] e)
    ])
    ∙ sym (links_stall-set cells (slice_set lines cache line) 0 links cache now ∙ ap
    (λ c. slice_set new cache (link_stalls cells (slice_set lines cache line) c now)) (zero-add cache))
    ∙ ap (links_stall cells (slice_set lines cache line) 0) (sym re.links)

-- ---- a step at a line

-- what holds of what there is, if there is something
pub some-map : {X : Type 0} {P Q : X → Type 0} (o : Option X) → ((x : X) → P x → Q x) → IfSome o P → IfSome o Q
some-map None f h = tt
some-map (Some x) f h = f x h

-- two facts of what there is, if there is something
pub some-both : {X : Type 0} (P Q : X → Type 0) (o : Option X) → IfSome o P → IfSome o Q → IfSome o (λ x. P x × Q x)
some-both P Q None p q = tt
some-both P Q (Some x) p q = (p, q)

-- only the line of its cache is another
pub lines-at : (d : Decision) (b new : BlockState) (what : Outcome) (own : CacheId) → IsAtOwn d own → carried_out d b ≡ moved_to new what →
    (line : Line) × (new.lines ≡ slice_set b.lines own.0 line)
lines-at (Refused said) b new what own at done = absurd at
lines-at (AtHome input next actions from) b new what own at done = absurd at
lines-at (AtLine cache line input next actions from) b new what own at done = (
  line_after input next line,
  ap (λ (t : Transition). t.block.lines) (sym done) ∙ ap (λ k. slice_set b.lines k (line_after input next line)) at.0,
)

pub right-after : (tables : Tables) (d : Decision) (old new : BlockState) (what : Outcome) (marks new_marks : Marks) (own : CacheId) →
    marks ≡ marks_of tables old → IsAtOwn d own → carried_out d old ≡ moved_to new what →
    IsRelinked own.0 marks.links old.traffic.links new_marks.links new.traffic.links →
    AreRight tables new.lines new.traffic.links own.0 new_marks.links
right-after tables d old new what marks new_marks own right at done re =
    let changed = lines-at d old new what own at done in
    rw changed.1
    (marks-stay tables old.lines old.traffic.links marks.links own.0 changed.0 new_marks.links new.traffic.links (ap (λ (m : Marks). m.links) right) re)
