-- Transitions on the head of a link keep the invariant.
use Rattle.std.proofs.Common.{◌≡◌, ◌≢◌, ℕ, ◌<◌, ◌+◌, List, ◌∷◌, inl, inr, refl, ap, sym, subst, ◌∙◌}
use Rattle.std.proofs.Common.{arith, Some, Bool, true, false, ◌==◌, slice_get}
use Rattle.std.proofs.Common.{eq-eqb, map}
use Rattle.std.proofs.lemmas.Bool.{ne_eqb}
use Rattle.std.proofs.lemmas.List.{length-set}
use Rattle.std.proofs.lemmas.List.Sums.{sum_by_push}
use Rattle.base.specs.declared.ids.CacheId.{CacheId}
use Rattle.base.specs.declared.ids.Place.TheVariants.{Dir, Cache}
use Rattle.network.specs.declared.message.Forward.{Forward}
use Rattle.network.specs.declared.message.ForwardKind.{ForwardKind}
use Rattle.network.specs.declared.message.ForwardKind.TheVariants.{FwdGetS, FwdGetM, Inv, PutAck}
use Rattle.network.specs.declared.message.Response.{Response}
use Rattle.network.specs.declared.message.Response.TheVariants as response
use Rattle.network.specs.Traffic.{Traffic, link, head_taken, response_sent}
use Rattle.cache_table.specs.declared.state.CacheState.{CacheState}
use Rattle.cache_table.specs.declared.state.CacheState.TheVariants.{I, IsD, ImAd, ImA, S, SmAd, SmA, M, MiA, SiA, IiA, E}
use Rattle.control.specs.declared.line.Line.{Line}
use Rattle.control.specs.declared.line.LineInput.TheVariants as line_input
use Rattle.machine.proofs.Truths.{Never}
use Rattle.machine.specs.Block.{BlockState}
use Rattle.control.specs.LineEffect.{line_after}
use Rattle.machine.proofs.Views.{View, Local, Holds, HasFwdGetS, local, holds}
use Rattle.machine.proofs.LocalSteps.{get_s, get_m}
use Rattle.machine.proofs.BlockSteps.{fwd_gets_served}
use Rattle.machine.proofs.Counts.{only, total, head_taken-total}
use Rattle.machine.proofs.Seen.{seen, view_of, block_view, line_of, early_of, late_of, home_data, of_kind, is_fwd_gets}
use Rattle.machine.proofs.Facts.{counted}
use Rattle.machine.proofs.Seeing.{named, headed, response_added, head_taken-seen, response_sent-seen}
use Rattle.machine.proofs.CellRules.{Comes, Gives}
use Rattle.machine.proofs.Sound.{Sound, Bounded, own-sound, view-at, view-own, view-other, local-at, line_block, bounds-set}
use Rattle.machine.proofs.AskTransitions.{seen-after, bounded-at}
use Rattle.machine.proofs.Cases.{by-eq}
use Rattle.machine.proofs.Fitting.{below_read}

-- what is seen of a cache's link once its head is taken
abbrev pub rest_of : BlockState → ℕ → List ForwardKind
rest_of b c = map (λ f. f.kind) (link (head_taken c b.traffic) c)

-- the head of its own link taken
pub own-headed : (b : BlockState) (c : ℕ) (m : Forward) (line : Line) → Some m ≡ slice_get (link b.traffic c) 0
    → named (m.requestor.0 == c) m.kind (record (seen line b.home (head_taken c b.traffic) c) { link = m.kind ∷ rest_of b c })
    ≡ seen line b.home b.traffic c
own-headed b c m line at =
    ap (λ t. named (m.requestor.0 == c) m.kind (record (seen line b.home (head_taken c b.traffic) c) { link = headed t m.kind (rest_of b c) }))
    (sym (eq-eqb c c refl))
    ∙ head_taken-seen line b.home b.traffic c m c at

pub own-begins : (b : BlockState) (c : ℕ) (m : Forward) (line : Line) → Some m ≡ slice_get (link b.traffic c) 0 →
    (seen line b.home b.traffic c).link ≡ m.kind ∷ rest_of b c
own-begins b c m line at = sym (ap (λ (v : View). v.link) (own-headed b c m line at))

-- and of another link
pub other-headed : (b : BlockState) (c d : ℕ) (m : Forward) (line : Line) → d ≢ c → Some m ≡ slice_get (link b.traffic c) 0
    → named (m.requestor.0 == d) m.kind (seen line b.home (head_taken c b.traffic) d) ≡ seen line b.home b.traffic d
other-headed b c d m line ne at =
    ap
    (λ t. named (m.requestor.0 == d) m.kind
    (record (seen line b.home (head_taken c b.traffic) d) { link = headed t m.kind (seen line b.home (head_taken c b.traffic) d).link }))
    (sym (ne_eqb c d (λ e. ne (sym e))))
    ∙ head_taken-seen line b.home b.traffic c m d at

-- an Inv-Ack stands for the Inv that it answers
inv-passed : (t : Bool) (u v : View) (l : List ForwardKind) → named t Inv (record u { link = l }) ≡ v →
    record u {
      link = l;
      invs = u.invs + only t 1;
      dir_data = u.dir_data + 0;
      owner_data = u.owner_data + 0;
      excl_data = u.excl_data + 0;
      promised = u.promised + 0;
    } ≡ v
inv-passed true u v l e = grind (arith)
inv-passed false u v l e = grind (arith)

ack-passed : (t : Bool) (u v : View) (l : List ForwardKind) → named t PutAck (record u { link = l }) ≡ v → record u { link = l } ≡ v
ack-passed true u v l e = grind (arith)
ack-passed false u v l e = grind (arith)

pub relinked : (u v : View) (l : List ForwardKind) → record u { link = l } ≡ v → u ≡ record v { link = u.link }
relinked u v l e = grind (arith)

has-rest : (k : ForwardKind) (l rest : List ForwardKind) → k ≢ FwdGetS → l ≡ k ∷ rest → HasFwdGetS l → HasFwdGetS rest
has-rest k l rest ne e h = elim (subst (λ x. HasFwdGetS x) e h) as (λ _. HasFwdGetS rest) [
  | inl s ↦ absurd (ne s)
  | inr p ↦ p
]

-- an Inv at its line
pub inv-acted : (n : ℕ) (b : BlockState) (cache r : CacheId) (line : Line) (next : CacheState) (latest : ℕ) →
    Sound n b → Some line ≡ slice_get b.lines cache.0 →
    Some (record { kind = Inv; requestor = r }) ≡ slice_get (link b.traffic cache.0) 0
    → Comes line.state (seen line b.home b.traffic cache.0) next (record (seen line b.home b.traffic cache.0) { state = next; link = rest_of b cache.0 })
    → Sound n
    (line_block b cache.0 (line_after (line_input.Forward (record { kind = Inv; requestor = r })) next line)
    (response_sent (response.InvAck cache r) (head_taken cache.0 b.traffic)) latest)
inv-acted n b cache r line next latest h there at comes =
    let m : Forward = record { kind = Inv; requestor = r } in
    let x : Response = response.InvAck cache r in
    let w1 : Traffic = head_taken cache.0 b.traffic in
    let w : Traffic = response_sent x w1 in
    let v : View = seen line b.home b.traffic cache.0 in
    let u : View = seen line b.home w1 cache.0 in
    let bound : Bounded n v = bounded-at n b cache.0 line h there in
    let mine : response_added cache.0 x u ≡ record v { link = rest_of b cache.0 } =
    relinked (response_added cache.0 x u) v (Inv ∷ rest_of b cache.0)
    (inv-passed (r.0 == cache.0) u v (Inv ∷ rest_of b cache.0) (own-headed b cache.0 m line at)) in
    own-sound n b cache.0 line (line_after (line_input.Forward m) next line) w latest (record v { state = next; link = rest_of b cache.0 }) h there
    (record {
      links = length-set b.traffic.links cache.0 _;
      home = sum_by_push home_data w1.responses x ∙ omega arith;
      fwd_gets = omega (arith, head_taken-total (of_kind is_fwd_gets) b.traffic cache.0 m at);
      others =
          λ d ne. response_sent-seen (line_of b.lines d) b.home w1 x d
          ∙ inv-passed (r.0 == d) (seen (line_of b.lines d) b.home w1 d) (view_of b d) (seen (line_of b.lines d) b.home w1 d).link
          (other-headed b cache.0 d m (line_of b.lines d) ne at);
    })
    (seen-after (line_input.Forward m) line next b.home w cache.0 ∙ ap
    (λ (y : View). record y { state = next; early = early_of line.acks; acks = late_of line.acks }) (response_sent-seen line b.home w1 x cache.0 ∙ mine))
    comes
    (record {
      shares = refl;
      owns = refl;
      fwd_gets = refl;
      link = has-rest Inv v.link (rest_of b cache.0) (λ e. absurd (cc)) (own-begins b cache.0 m line at);
    })
    (record { promised = bound.promised; acks = bound.acks })

-- a Put-Ack at its line
pub put-ack-acted : (n : ℕ) (b : BlockState) (cache r : CacheId) (line : Line) (next : CacheState) (latest : ℕ) → Sound n b →
    Some line ≡ slice_get b.lines cache.0 → Some (record { kind = PutAck; requestor = r }) ≡ slice_get (link b.traffic cache.0) 0
    → Comes line.state (seen line b.home b.traffic cache.0) next (record (seen line b.home b.traffic cache.0) { state = next; link = rest_of b cache.0 })
    → Sound n (line_block b cache.0 (line_after (line_input.Forward (record { kind = PutAck; requestor = r })) next line)
    (head_taken cache.0 b.traffic) latest)
put-ack-acted n b cache r line next latest h there at comes =
    let m : Forward = record { kind = PutAck; requestor = r } in
    let w : Traffic = head_taken cache.0 b.traffic in
    let v : View = seen line b.home b.traffic cache.0 in
    let u : View = seen line b.home w cache.0 in
    let bound : Bounded n v = bounded-at n b cache.0 line h there in
    let mine : u ≡ record v { link = rest_of b cache.0 } =
    relinked u v (PutAck ∷ rest_of b cache.0) (ack-passed (r.0 == cache.0) u v (PutAck ∷ rest_of b cache.0) (own-headed b cache.0 m line at)) in
    own-sound n b cache.0 line (line_after (line_input.Forward m) next line) w latest (record v { state = next; link = rest_of b cache.0 }) h there
    (record {
      links = length-set b.traffic.links cache.0 _;
      home = refl;
      fwd_gets = omega (arith, head_taken-total (of_kind is_fwd_gets) b.traffic cache.0 m at);
      others =
          λ d ne. ack-passed (r.0 == d) (seen (line_of b.lines d) b.home w d) (view_of b d) (seen (line_of b.lines d) b.home w d).link
          (other-headed b cache.0 d m (line_of b.lines d) ne at);
    })
    (seen-after (line_input.Forward m) line next b.home w cache.0 ∙ ap
    (λ (y : View). record y { state = next; early = early_of line.acks; acks = late_of line.acks }) mine)
    comes
    (record {
      shares = refl;
      owns = refl;
      fwd_gets = refl;
      link = has-rest PutAck v.link (rest_of b cache.0) (λ e. absurd (cc))
          (own-begins b cache.0 m line at);
    })
    (record { promised = bound.promised; acks = bound.acks })

-- a cache that a forward names doesn't hold the block
pub named-waits : (s : CacheState) (v : View) → 0 < v.fwd_gets + v.fwd_getm → Local s v → Holds s v → Never
named-waits I v p h q = grind (arith)
named-waits IsD v p h q = grind (arith)
named-waits ImAd v p h q = grind (arith)
named-waits ImA v p h q = grind (arith)
named-waits S v p h q = grind (arith)
named-waits SmAd v p h q = grind (arith)
named-waits SmA v p h q = grind (arith)
named-waits M v p h q = grind (arith)
named-waits MiA v p h q = grind (arith)
named-waits SiA v p h q = grind (arith)
named-waits IiA v p h q = grind (arith)
named-waits E v p h q = grind (arith)

gets-other : (u v : View) (l : List ForwardKind) → named false FwdGetS (record u { link = l }) ≡ v
    → record u {
      link = l;
      invs = u.invs + 0 + 0;
      dir_data = u.dir_data + 0 + 0;
      owner_data = u.owner_data + 0 + 0;
      excl_data = u.excl_data + 0 + 0;
      promised = u.promised + 0 + 0;
    } ≡ v
gets-other u v l e = grind (arith)

gets-named : (u v : View) → named true FwdGetS u ≡ v
    → record u {
      invs = u.invs + 0 + 0;
      dir_data = u.dir_data + 0 + 0;
      owner_data = u.owner_data + 1 + 0;
      excl_data = u.excl_data + 0 + 0;
      promised = u.promised + 0 + 0;
    } ≡ get_s v
gets-named u v e = grind (arith)

pub getm-other : (u v : View) (l : List ForwardKind) → named false FwdGetM (record u { link = l }) ≡ v
    → record u {
      link = l;
      invs = u.invs + 0;
      dir_data = u.dir_data + 0;
      owner_data = u.owner_data + 0;
      excl_data = u.excl_data + 0;
      promised = u.promised + 0;
    } ≡ v
getm-other u v l e = grind (arith)

pub getm-named : (u v : View) → named true FwdGetM u ≡ v
    → record u { invs = u.invs + 0; dir_data = u.dir_data + 0; owner_data = u.owner_data + 1; excl_data = u.excl_data + 0; promised = u.promised + 0 } ≡ get_m v
getm-named u v e = grind (arith)

-- a FwdGetS at the line that holds the block
pub gets-acted : (n : ℕ) (b : BlockState) (cache r : CacheId) (line : Line) (next : CacheState) (latest : ℕ) →
    Sound n b → Some line ≡ slice_get b.lines cache.0 →
    Some (record { kind = FwdGetS; requestor = r }) ≡ slice_get (link b.traffic cache.0) 0
    → Gives line.state (seen line b.home b.traffic cache.0) next (record (seen line b.home b.traffic cache.0) { state = next; link = rest_of b cache.0 })
    → Sound n
    (line_block b cache.0 (line_after (line_input.Forward (record { kind = FwdGetS; requestor = r })) next line)
    (response_sent (response.Data (Cache cache) Dir line.value 0)
    (response_sent (response.Data (Cache cache) (Cache r) line.value 0) (head_taken cache.0 b.traffic))) latest)
gets-acted n b cache r line next latest h there at gives =
    let m : Forward = record { kind = FwdGetS; requestor = r } in
    let x : Response = response.Data (Cache cache) (Cache r) line.value 0 in
    let y : Response = response.Data (Cache cache) Dir line.value 0 in
    let w1 : Traffic = head_taken cache.0 b.traffic in
    let w : Traffic = response_sent y (response_sent x w1) in
    let l : Line = (line_after (line_input.Forward m) next line) in
    let b' : BlockState = line_block b cache.0 l w latest in
    let v : View = seen line b.home b.traffic cache.0 in
    let rest : List ForwardKind = rest_of b cache.0 in
    let local_c : Local line.state v = local-at n b cache.0 line h there in
    let bound : Bounded n v = bounded-at n b cache.0 line h there in
    let is_v : view_of b cache.0 ≡ v = view-at b cache.0 line there in
    let own : named (r.0 == cache.0) FwdGetS (record (seen line b.home w1 cache.0) { link = FwdGetS ∷ rest }) ≡ v = own-headed b cache.0 m line at in
    let apart : cache.0 ≢ r.0 = λ e.
    let one : named true FwdGetS (record (seen line b.home w1 cache.0) { link = FwdGetS ∷ rest }) ≡ v =
    ap (λ t. named t FwdGetS (record (seen line b.home w1 cache.0) { link = FwdGetS ∷ rest })) (sym (eq-eqb r.0 cache.0 (sym e))) ∙ own in
    let some : 0 < v.fwd_gets + v.fwd_getm = omega (arith, ap (λ (z : View). z.fwd_gets) one, ap (λ (z : View). z.fwd_getm) one) in
    absurd (omega (arith, named-waits line.state v some local_c gives.held)) in
    let other_test : (r.0 == cache.0) ≡ false = ne_eqb r.0 cache.0 (λ e. apart (sym e)) in
    let sent : (z : Line) (d : ℕ) → seen z b.home w d ≡ response_added d y (response_added d x (seen z b.home w1 d)) =
    λ z d. response_sent-seen z b.home (response_sent x w1) y d ∙ ap (λ (u : View). response_added d y u) (response_sent-seen z b.home w1 x d) in
    let mine : seen line b.home w cache.0 ≡ record v { link = rest } =
    sent line cache.0 ∙ relinked _ v (FwdGetS ∷ rest)
    (ap (λ t. let u : View = seen line b.home w1 cache.0 in record u {
      link = FwdGetS ∷ rest;
      invs = u.invs + 0 + 0;
      dir_data = u.dir_data + 0 + 0;
      owner_data = u.owner_data + only t 1 + 0;
      excl_data = u.excl_data + 0 + 0;
      promised = u.promised + 0 + 0;
    }) other_test
    ∙ gets-other (seen line b.home w1 cache.0) v (FwdGetS ∷ rest)
    (ap (λ t. named t FwdGetS (record (seen line b.home w1 cache.0) { link = FwdGetS ∷ rest })) (sym other_test) ∙ own)) in
    let after : view_of b' cache.0 ≡ record v { state = next; link = rest } =
    view-own b cache.0 l w latest (below_read b.lines cache.0 line there) ∙ seen-after (line_input.Forward m) line next b.home w cache.0
    ∙ ap (λ (z : View). record z { state = next; early = early_of line.acks; acks = late_of line.acks }) mine in
    let others : (d : ℕ) → d ≢ r.0 → d ≢ cache.0 → view_of b' d ≡ view_of b d = λ d nr nc.
    let z : Line = line_of b.lines d in
    let u : View = seen z b.home w1 d in
    let no : (r.0 == d) ≡ false = ne_eqb r.0 d (λ e. nr (sym e)) in
    view-other b cache.0 d l w latest nc ∙ sent z d
    ∙ ap (λ t. record u {
      invs = u.invs + 0 + 0;
      dir_data = u.dir_data + 0 + 0;
      owner_data = u.owner_data + only t 1 + 0;
      excl_data = u.excl_data + 0 + 0;
      promised = u.promised + 0 + 0;
    }) no
    ∙ gets-other u (view_of b d) u.link (ap (λ t. named t FwdGetS u) (sym no) ∙ other-headed b cache.0 d m z nc at) in
    let r_test : (r.0 == r.0) ≡ true = eq-eqb r.0 r.0 refl in
    let headed_r : named true FwdGetS (seen (line_of b.lines r.0) b.home w1 r.0) ≡ view_of b r.0 =
    ap (λ t. named t FwdGetS (seen (line_of b.lines r.0) b.home w1 r.0)) (sym r_test)
    ∙ other-headed b cache.0 r.0 m (line_of b.lines r.0) (λ e. apart (sym e)) at in
    let requestor : view_of b' r.0 ≡ get_s (view_of b r.0) =
    let u : View = seen (line_of b.lines r.0) b.home w1 r.0 in
    view-other b cache.0 r.0 l w latest (λ e. apart (sym e)) ∙ sent (line_of b.lines r.0) r.0
    ∙ ap
    (λ t. record u {
      invs = u.invs + 0 + 0;
      dir_data = u.dir_data + 0 + 0;
      owner_data = u.owner_data + only t 1 + 0;
      excl_data = u.excl_data + 0 + 0;
      promised = u.promised + 0 + 0;
    }) r_test
    ∙ gets-named u (view_of b r.0) headed_r in
    let held : holds (view_of b cache.0) = subst (λ z. holds z) (sym is_v) gives.held in
    let taken : total (of_kind is_fwd_gets) w1.links + is_fwd_gets FwdGetS ≡ total (of_kind is_fwd_gets) b.traffic.links =
    head_taken-total (of_kind is_fwd_gets) b.traffic cache.0 m at in
    record {
      few = h.few;
      lines = length-set b.lines cache.0 l ∙ h.lines;
      links = length-set b.traffic.links cache.0 _ ∙ h.links;
      sharers = h.sharers;
      owned = h.owned;
      good =
          fwd_gets_served (block_view b) (block_view b') cache.0 r.0 h.good (counted b) apart (omega (arith, ap (λ (z : View). z.fwd_gets) headed_r)) held refl
          (omega (arith, sum_by_push home_data w1.responses x, sum_by_push home_data (response_sent x w1).responses y)) (omega (arith, taken))
          (subst (λ z. local z) (sym after) gives.fits) (λ q. gives.given (subst (λ z. holds z) after q))
          (ap (λ (z : View). z.shares) after ∙ ap (λ (z : View). z.shares) (sym is_v))
          (ap (λ (z : View). z.owns) after ∙ ap (λ (z : View). z.owns) (sym is_v))
          requestor others;
      bounds = bounds-set n b b' cache.0 h (subst (λ z. Bounded n z) (sym after) (record { promised = bound.promised; acks = bound.acks }))
          (λ d nc. by-eq d r.0 (λ e. subst (λ k. (view_of b' k).promised ≡ (view_of b k).promised) (sym e) (ap (λ (z : View). z.promised) requestor))
          (λ nr. ap (λ (z : View). z.promised) (others d nr nc)))
          (λ d nc. by-eq d r.0 (λ e. subst (λ k. (view_of b' k).acks ≡ (view_of b k).acks) (sym e) (ap (λ (z : View). z.acks) requestor))
          (λ nr. ap (λ (z : View). z.acks) (others d nr nc)));
    }
