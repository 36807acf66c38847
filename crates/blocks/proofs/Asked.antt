-- What a step at a line leaves of the requests: those that there were, and their marks.
use Rattle.std.proofs.Common.{◌≡◌, ℕ, ◌++◌, List, [], ◌∷◌, Bool, Option, None, Some, length, map, take, drop}
use Rattle.std.proofs.Common.{refl, sym, ap, ◌∙◌, zero, suc}
use Rattle.std.proofs.lemmas.List.{drop-map, length-map, take-map}
use Rattle.std.proofs.Math.Seq.{take-append_seam, take-length}
use Rattle.base.specs.declared.ids.CacheId.{CacheId}
use Rattle.base.specs.declared.step.Outcome.{Outcome}
use Rattle.network.specs.declared.message.Request.{Request}
use Rattle.network.specs.Marks.{Marks}
use Rattle.network.specs.Traffic.{Traffic, all_sent}
use Rattle.network.proofs.Sending.{all_sent-append}
use Rattle.cache_table.specs.declared.actions.CacheAction.{CacheAction}
use Rattle.cache_table.specs.declared.actions.CacheAction.TheVariants as action
use Rattle.control.specs.LineEffect.{line_message, line_messages, line_sends}
use Rattle.control.specs.declared.home.HomeInput.TheVariants as home_input
use Rattle.tables.specs.Tables.{Tables}
use Rattle.machine.specs.Block.{BlockState}
use Rattle.machine.specs.Transition.{Transition, carried_out, without}
use Rattle.machine.specs.declared.decision.Decision.{Decision}
use Rattle.machine.specs.declared.decision.Decision.TheVariants.{Refused, AtLine, AtHome}
use Rattle.machine.specs.declared.decision.Origin.{Origin}
use Rattle.machine.specs.declared.decision.Origin.TheVariants as origin
use Rattle.blocks.specs.View.{moved_to}
use Rattle.blocks.specs.Marking.{home_stalls, marks_of}
use Rattle.blocks.specs.inner.Asked.{AreFirstRight}
use Rattle.blocks.specs.inner.Linking.{IsAtOwn, IsOwn}
use Rattle.blocks.specs.inner.Tested.{requests_stall}

-- ---- fronts of lists

first-same : {X : Type 0} (y x : X) (ys xs : List X) → y ∷ ys ≡ x ∷ xs → x ≡ y
first-same y x ys xs e = cc e

rest-same : {X : Type 0} (y x : X) (ys xs : List X) → y ∷ ys ≡ x ∷ xs → ys ≡ xs
rest-same y x ys xs e = cc e

-- the front of a front
front-front : {X : Type 0} (xs ys zs : List X) → take (length xs) ys ≡ xs → take (length ys) zs ≡ ys → take (length xs) zs ≡ xs
front-front [] ys zs e f = refl
front-front (x ∷ xs) [] zs e f = absurd (cc e)
front-front (x ∷ xs) (y ∷ ys) [] e f = absurd (cc f)
front-front (x ∷ xs) (y ∷ ys) (z ∷ zs) e f =
    ap (λ a. a ∷ take (length xs) zs) (sym (first-same z y _ _ f) ∙ sym (first-same y x _ _ e))
    ∙ ap (λ us. x ∷ us) (front-front xs ys zs (rest-same y x _ _ e) (rest-same z y _ _ f))

-- ---- what a line sends comes behind the requests that there are

message-requests : (cache : CacheId) (value : ℕ) (to : Option CacheId) (a : CacheAction) (w : Traffic) →
    take (length w.requests) (all_sent (line_message cache value to a) w).requests ≡ w.requests
message-requests cache value to action.GetS w = take-append_seam w.requests _
message-requests cache value to action.GetM w = take-append_seam w.requests _
message-requests cache value to action.PutS w = take-append_seam w.requests _
message-requests cache value to action.PutM w = take-append_seam w.requests _
message-requests cache value (Some t) action.InvAck w = take-length w.requests
message-requests cache value (Some t) action.DataReq w = take-length w.requests
message-requests cache value None action.InvAck w = take-length w.requests
message-requests cache value None action.DataReq w = take-length w.requests
message-requests cache value to action.DataDir w = take-length w.requests

messages-requests : (cache : CacheId) (value : ℕ) (to : Option CacheId) (actions : List CacheAction) (w : Traffic) →
    take (length w.requests) (all_sent (line_messages cache value to actions) w).requests ≡ w.requests
messages-requests cache value to [] w = take-length w.requests
messages-requests cache value to (a ∷ actions) w =
    let mid = all_sent (line_message cache value to a) w in
    ap (λ (t : Traffic). take (length w.requests) t.requests) (all_sent-append (line_message cache value to a) (line_messages cache value to actions) w)
    ∙ front-front w.requests mid.requests _ (message-requests cache value to a w) (messages-requests cache value to actions mid)

without-requests : (from : Origin) (own : CacheId) (w : Traffic) → IsOwn from own → (without from w).requests ≡ w.requests
without-requests origin.Core own w mine = refl
without-requests (origin.Request index) own w mine = absurd mine
without-requests (origin.Head cache) own w mine = refl
without-requests (origin.Response index) own w mine = refl

-- ---- a step at a line

same-home : (d : Decision) (b new : BlockState) (what : Outcome) (own : CacheId) → IsAtOwn d own → carried_out d b ≡ moved_to new what →
    new.home ≡ b.home
same-home (Refused said) b new what own at done = absurd at
same-home (AtHome input next actions from) b new what own at done = absurd at
same-home (AtLine cache line input next actions from) b new what own at done = sym (ap (λ (t : Transition). t.block.home) done)

requests-front : (d : Decision) (b new : BlockState) (what : Outcome) (own : CacheId) → IsAtOwn d own → carried_out d b ≡ moved_to new what →
    take (length b.traffic.requests) new.traffic.requests ≡ b.traffic.requests
requests-front (Refused said) b new what own at done = absurd at
requests-front (AtHome input next actions from) b new what own at done = absurd at
requests-front (AtLine cache line input next actions from) b new what own at done =
    let before = without-requests from own b.traffic at.1 in
    let mid = without from b.traffic in
    ap (λ (t : Transition). take (length b.traffic.requests) t.block.traffic.requests) (sym done)
    ∙ ap (λ (rs : List Request). take (length rs) (all_sent (line_sends cache input actions line) mid).requests) (sym before)
    ∙ messages-requests cache _ _ actions mid
    ∙ before

-- the marks of the requests that there were stay right
pub first-right-after : (tables : Tables) (d : Decision) (old new : BlockState) (what : Outcome) (marks new_marks : Marks) (own : CacheId) (count : ℕ) →
    marks ≡ marks_of tables old → IsAtOwn d own → carried_out d old ≡ moved_to new what →
    take (length marks.requests) new_marks.requests ≡ marks.requests → count ≡ length old.traffic.requests →
    AreFirstRight count new_marks.requests (requests_stall tables.directory new.home new.traffic.requests)
first-right-after tables d old new what marks new_marks own count right at done front many =
    let stalls = λ (r : Request). home_stalls tables.directory old.home (home_input.Request r) in
    let were : marks.requests ≡ map stalls old.traffic.requests = ap (λ (m : Marks). m.requests) right in
    let long : length marks.requests ≡ count = ap length were ∙ length-map old.traffic.requests stalls ∙ sym many in
    let now : take count (requests_stall tables.directory new.home new.traffic.requests) ≡ marks.requests =
    ap (λ h. take count (requests_stall tables.directory h new.traffic.requests)) (same-home d old new what own at done)
    ∙ take-map stalls count new.traffic.requests
    ∙ ap (λ n. map stalls (take n new.traffic.requests)) many
    ∙ ap (map stalls) (requests-front d old new what own at done)
    ∙ sym were in
    ap (λ n. take n new_marks.requests) (sym long) ∙ front ∙ sym now

-- and with the marks of the others they are those of all
whole : {X : Type 0} (n : ℕ) (xs : List X) → take n xs ++ drop n xs ≡ xs
whole zero xs = refl
whole (suc n) [] = refl
whole (suc n) (x ∷ xs) = ap (λ ys. x ∷ ys) (whole n xs)

pub first-and-others : {X : Type 0} (f : X → Bool) (marks : List Bool) (n : ℕ) (xs : List X) → AreFirstRight n marks (map f xs) →
    take n marks ++ map f (drop n xs) ≡ map f xs
first-and-others f marks n xs first = (λ i. first i ++ sym (drop-map f n xs) i) ∙ whole n (map f xs)
