-- In a block with a message one can be delivered, under tables that keep going: the heads of links.
use Rattle.std.proofs.Common.{◌≡◌, ℕ, ◌<◌, ◌≤◌, ◌+◌, List, [], ◌∷◌, ◌⊎◌, inl, inr, get_or, refl}
use Rattle.std.proofs.Common.{length, ap, sym, subst, ◌∙◌, zero, suc, arith}
use Rattle.std.proofs.Common.{Some, Bool, true, false, ◌==◌, slice_get, sum_by, map, add-one}
use Rattle.std.proofs.lemmas.Bool.{cases_eq}
use Rattle.std.proofs.lemmas.List.Sums.{sum_by-cons}
use Rattle.base.specs.declared.ids.BlockId.{BlockId}
use Rattle.network.specs.declared.message.Request.{Request}
use Rattle.network.specs.declared.message.Forward.{Forward}
use Rattle.network.specs.declared.message.ForwardKind.{ForwardKind}
use Rattle.network.specs.declared.message.ForwardKind.TheVariants.{FwdGetS, FwdGetM, Inv, PutAck}
use Rattle.network.specs.Traffic.{Traffic, link}
use Rattle.cache_table.specs.declared.state.CacheState.{CacheState}
use Rattle.cache_table.specs.declared.state.CacheState.TheVariants.{IsD}
use Rattle.cache_table.specs.declared.event.CacheEvent.TheVariants as line_event
use Rattle.cache_table.specs.Baseline as cache_table
use Rattle.directory_table.specs.declared.state.DirectoryState.TheVariants as home
use Rattle.control.specs.declared.line.Line.{Line}
use Rattle.control.specs.LineEvents.{forward_event}
use Rattle.machine.proofs.Truths.{Never}
use Rattle.machine.specs.Block.{BlockState}
use Rattle.machine.proofs.Quiet.{IsQuiet}
use Rattle.machine.proofs.Views.{View, Local}
use Rattle.machine.proofs.Counts.{only, total, link-total, link-there, total-below}
use Rattle.machine.proofs.Seen.{seen, names, of_kind, is_fwd_gets, is_fwd_getm, is_inv, dir_data, owner_data, excl_data, inv_ack, home_data}
use Rattle.machine.proofs.Sound.{Sound, local-at}
use Rattle.machine.proofs.Plain.{Plain}
use Rattle.machine.proofs.ForwardTransitions.{rest_of, own-begins}
use Rattle.machine.proofs.Ranks.{Ranked, owed_to}
use Rattle.machine.proofs.StallRules.{Serves, Unanswered, HasInvIn}
use Rattle.machine.proofs.StallRules.{put_ack_serves, inv_serves, fwd_gets_serves, fwd_getm_serves, inv_first}
use Rattle.tables.specs.Tables.{Tables}
use Rattle.machine.specs.Going.{KeepsGoing, AwaitsData}
use Rattle.machine.proofs.Moves.{line-there, Found, found-request, found-head}
use Rattle.machine.proofs.ResponseMoves.{data-found}

-- a sum that isn't 0 has a link that isn't empty
suc-link : (f : Forward → ℕ) (l : List Forward) (ls : List (List Forward)) (e : ℕ) → 0 < sum_by f (get_or ls e []) →
    0 < sum_by f (get_or (l ∷ ls) (e + 1) [])
suc-link f l ls e h = rw (add-one) h

find : (f : Forward → ℕ) (ls : List (List Forward)) → 0 < total f ls → (e : ℕ) × (0 < sum_by f (get_or ls e []))
find f [] h = absurd (omega arith)
find f (l ∷ ls) h = elim (cases_eq (sum_by f l) 0) as (λ _. (e : ℕ) × (0 < sum_by f (get_or (l ∷ ls) e []))) [
  | inl z ↦ let rest : (e : ℕ) × (0 < sum_by f (get_or ls e [])) = find f ls (omega arith) in (rest.0 + 1, suc-link f l ls rest.0 rest.1)
  | inr ne ↦ (0, omega (arith, ne))
]

pub find-link : (f : Forward → ℕ) (w : Traffic) → 0 < total f w.links → (e : ℕ) × (0 < sum_by f (link w e))
find-link f w h = find f w.links h

head-of : (f : Forward → ℕ) (l : List Forward) → 0 < sum_by f l → (m : Forward) × (Some m ≡ slice_get l 0)
head-of f [] h = absurd (omega arith)
head-of f (m ∷ l) h = (m, refl)

inv-or-rest : (k : ForwardKind) (t : Bool) (P : Type 0) (m : ℕ) → (0 < m → P) → 0 < only t (is_inv k) + m → (k ≡ Inv) ⊎ P
inv-or-rest Inv t P m f h = inl refl
inv-or-rest FwdGetS true P m f h = inr (f (omega arith))
inv-or-rest FwdGetS false P m f h = inr (f (omega arith))
inv-or-rest FwdGetM true P m f h = inr (f (omega arith))
inv-or-rest FwdGetM false P m f h = inr (f (omega arith))
inv-or-rest PutAck true P m f h = inr (f (omega arith))
inv-or-rest PutAck false P m f h = inr (f (omega arith))

has-inv-in : (l : List Forward) (d : ℕ) → 0 < sum_by (names d is_inv) l → HasInvIn (map (λ f. f.kind) l)
has-inv-in [] d h = absurd (omega arith)
has-inv-in (f ∷ l) d h =
    inv-or-rest f.kind (f.requestor.0 == d) (HasInvIn (map (λ f. f.kind) l)) (sum_by (names d is_inv) l) (has-inv-in l d)
    (omega (arith, sum_by-cons (names d is_inv) f l))

by-kind : (k : ForwardKind) (S : ForwardKind → Type 0) (F : Type 0) → (S k → F) →
    (k ≡ FwdGetS → S FwdGetS ⊎ F) → (k ≡ FwdGetM → S FwdGetM ⊎ F) →
    (k ≡ Inv → S Inv ⊎ F) → (k ≡ PutAck → S PutAck ⊎ F) → F
by-kind FwdGetS S F f a b c d = elim (a refl) as (λ _. F) [ inl s ↦ f s | inr x ↦ x ]
by-kind FwdGetM S F f a b c d = elim (b refl) as (λ _. F) [ inl s ↦ f s | inr x ↦ x ]
by-kind Inv S F f a b c d = elim (c refl) as (λ _. F) [ inl s ↦ f s | inr x ↦ x ]
by-kind PutAck S F f a b c d = elim (d refl) as (λ _. F) [ inl s ↦ f s | inr x ↦ x ]

-- an Inv on some link is at its head, and can be delivered
head-same : (j k : ForwardKind) (js ks : List ForwardKind) → j ∷ js ≡ k ∷ ks → j ≡ k
head-same j k js ks e = cc

kind-first : (l : List Forward) (k : ForwardKind) (rest : List ForwardKind) → map (λ f. f.kind) l ≡ k ∷ rest →
    (m : Forward) × (Some m ≡ slice_get l 0) × (m.kind ≡ k)
kind-first [] k rest e = absurd (cc)
kind-first (m ∷ l) k rest e = (m, refl, head-same m.kind k (map (λ f. f.kind) l) rest e)

inv-kind : (s : CacheState) (k : ForwardKind) → k ≡ Inv → Serves (cache_table.msi_e_entry s line_event.Inv) →
    Serves (cache_table.msi_e_entry s (forward_event k))
inv-kind s k e h = subst (λ (x : ForwardKind). Serves (cache_table.msi_e_entry s (forward_event x))) (sym e) h

-- an Inv is held in IS^D alone
inv-held : (s : CacheState) → Serves (cache_table.msi_e_entry s line_event.Inv) ⊎ (s ≡ IsD)
inv-held IsD = inr refl
inv-held s = inl tt

not-awaiting : (s : CacheState) → s ≡ IsD → AwaitsData s → ⊥
not-awaiting s e = subst (λ x. AwaitsData x → ⊥) (sym e) (λ h. h)

-- so either it is served, or the Data that its line waits for
pub found-inv : (n : ℕ) (tables : Tables) → KeepsGoing tables → (b : BlockState) (block : BlockId) (c : ℕ) → Sound n b → Plain tables.protocol b →
    0 < total (names c is_inv) b.traffic.links → Found tables b block
found-inv n tables k b block c h pl some =
    let e : (e : ℕ) × (0 < sum_by (names c is_inv) (link b.traffic e)) = find-link (names c is_inv) b.traffic some in
    let x : (x : Forward) × (Some x ≡ slice_get (link b.traffic e.0) 0) = head-of (names c is_inv) (link b.traffic e.0) e.1 in
    let low : e.0 < length b.lines = omega (arith, link-there e.0 x.0 b.traffic x.1, h.links, h.lines) in
    let l : (line : Line) × (Some line ≡ slice_get b.lines e.0) = line-there b.lines e.0 low in
    let v : View = seen l.0 b.home b.traffic e.0 in
    let local : Local l.0.state v = local-at n b e.0 l.0 h l.1 in
    let first : (rest : List ForwardKind) × (v.link ≡ Inv ∷ rest) = inv_first l.0.state v (has-inv-in (link b.traffic e.0) c e.1) local in
    let m : (m : Forward) × (Some m ≡ slice_get (link b.traffic e.0) 0) × (m.kind ≡ Inv) = kind-first (link b.traffic e.0) Inv first.0 first.1 in
    let serve : Serves (cache_table.msi_e_entry l.0.state line_event.Inv) → Found tables b block =
    λ s. found-head n tables k b block e.0 m.0 l.0 m.1 l.1 h pl (inv-kind l.0.state m.0.kind m.2 s) in
    elim (inv-held l.0.state) as (λ _. Found tables b block) [
      | inl s ↦ serve s
      | inr isd ↦ elim (cases_eq (v.dir_data + v.owner_data + v.excl_data) 0) as (λ _. Found tables b block) [
        | inl z ↦ serve (inv_serves l.0.state v first.0 first.1 (record { dir = omega arith; owner = omega arith; excl = omega arith }) local)
        | inr ne ↦ elim (data-found n tables k b block e.0 l.0 l.1 h pl (omega (arith, ne))) as (λ _. Found tables b block) [
          | inl f ↦ f
          | inr w ↦ absurd (not-awaiting l.0.state isd w.0)
        ]
      ]
    ]

-- without responses, some head of a link can be delivered
heads : (n : ℕ) (tables : Tables) → KeepsGoing tables → (b : BlockState) (block : BlockId) (rk : ℕ → ℕ) →
    ((a d : ℕ) → 0 < owed_to b.traffic a d → rk a < rk d) → Sound n b → Plain tables.protocol b →
    b.traffic.responses ≡ [] → (most : ℕ) (c : ℕ) → rk c < most → (m : Forward) → Some m ≡ slice_get (link b.traffic c) 0 → Found tables b block
heads n tables k b block rk ranked h pl quiet zero c below m at = absurd (omega arith)
heads n tables k b block rk ranked h pl quiet (suc most) c below m at =
    let l : (line : Line) × (Some line ≡ slice_get b.lines c) = line-there b.lines c (omega (arith, link-there c m b.traffic at, h.links, h.lines)) in
    let v : View = seen l.0 b.home b.traffic c in
    let local : Local l.0.state v = local-at n b c l.0 h l.1 in
    let un : Unanswered v = record {
      dir = ap (λ xs. sum_by (dir_data c) xs) quiet;
      owner = ap (λ xs. sum_by (owner_data c) xs) quiet;
      excl = ap (λ xs. sum_by (excl_data c) xs) quiet;
    } in
    let begins : v.link ≡ m.kind ∷ rest_of b c = own-begins b c m l.0 at in
    let invs : 0 < v.invs → Found tables b block = λ p. found-inv n tables k b block c h pl (omega (arith, ap (λ xs. sum_by (inv_ack c) xs) quiet)) in
    let owners : 0 < v.fwd_getm → Found tables b block = λ p.
    let e : (e : ℕ) × (0 < sum_by (names c is_fwd_getm) (link b.traffic e)) = find-link (names c is_fwd_getm) b.traffic p in
    let x : (x : Forward) × (Some x ≡ slice_get (link b.traffic e.0) 0) = head-of (names c is_fwd_getm) (link b.traffic e.0) e.1 in
    heads n tables k b block rk ranked h pl quiet most e.0 (omega (arith, ranked e.0 c e.1)) x.0 x.1 in
    by-kind m.kind (λ q. Serves (cache_table.msi_e_entry l.0.state (forward_event q))) (Found tables b block)
    (found-head n tables k b block c m l.0 at l.1 h pl)
    (λ q. elim (fwd_gets_serves l.0.state v (rest_of b c) (begins ∙ ap (λ x. x ∷ rest_of b c) q) un local) as
    (λ _. Serves (cache_table.msi_e_entry l.0.state line_event.FwdGetS) ⊎ Found tables b block) [
      | inl s ↦ inl s
      | inr (inl p) ↦ inr (invs p)
      | inr (inr p) ↦ inr (owners p)
    ])
    (λ q. elim (fwd_getm_serves l.0.state v (rest_of b c) (begins ∙ ap (λ x. x ∷ rest_of b c) q) un local) as
    (λ _. Serves (cache_table.msi_e_entry l.0.state line_event.FwdGetM) ⊎ Found tables b block) [
      | inl s ↦ inl s
      | inr (inl p) ↦ inr (invs p)
      | inr (inr p) ↦ inr (owners p)
    ])
    (λ q. inl (inv_serves l.0.state v (rest_of b c) (begins ∙ ap (λ x. x ∷ rest_of b c) q) un local))
    (λ q. inl (put_ack_serves l.0.state))

any-head : (n : ℕ) (tables : Tables) → KeepsGoing tables → (b : BlockState) (block : BlockId) (f : Forward → ℕ) → Ranked b → Sound n b →
    Plain tables.protocol b → b.traffic.responses ≡ [] →
    0 < total f b.traffic.links → Found tables b block
any-head n tables k b block f rd h pl quiet some =
    let e : (e : ℕ) × (0 < sum_by f (link b.traffic e)) = find-link f b.traffic some in
    let x : (x : Forward) × (Some x ≡ slice_get (link b.traffic e.0) 0) = head-of f (link b.traffic e.0) e.1 in
    heads n tables k b block rd.ranks.0 rd.ranks.1 h pl quiet (rd.ranks.0 e.0 + 1) e.0 (omega arith) x.0 x.1

no-heads : (l : List Forward) → sum_by (λ f. 1) l ≡ 0 → l ≡ []
no-heads [] e = refl
no-heads (f ∷ l) e = absurd (omega (arith, sum_by-cons {X = Forward} (λ f. 1) f l))

few-fwd_gets : (k : ForwardKind) → is_fwd_gets k ≤ 1
few-fwd_gets FwdGetS = omega arith
few-fwd_gets FwdGetM = omega arith
few-fwd_gets Inv = omega arith
few-fwd_gets PutAck = omega arith

ones-above : (ls : List (List Forward)) → total (of_kind is_fwd_gets) ls ≤ total (λ f. 1) ls
ones-above ls = total-below (of_kind is_fwd_gets) (λ f. 1) (λ f. few-fwd_gets f.kind) ls

requests-left : (n : ℕ) (tables : Tables) → KeepsGoing tables → (b : BlockState) (block : BlockId) (rs : List Request) → rs ≡ b.traffic.requests →
    Sound n b → Plain tables.protocol b → b.traffic.responses ≡ [] →
    ((c : ℕ) → link b.traffic c ≡ []) → (IsQuiet b.traffic → ⊥) → (b.home.state ≡ home.SD → Never) → Found tables b block
requests-left n tables k b block [] e h pl quiet empty not_quiet not_sd = absurd (not_quiet (record { requests = sym e; links = empty; responses = quiet }))
requests-left n tables k b block (r ∷ rs) e h pl quiet empty not_quiet not_sd =
    found-request n tables k b block r (ap (λ l. slice_get l 0) e) h pl (λ sd. absurd (omega (arith, not_sd sd)))

-- a block with a message has one that can be delivered
pub without-responses : (n : ℕ) (tables : Tables) → KeepsGoing tables → (b : BlockState) (block : BlockId) (rs : List Request) → rs ≡ b.traffic.requests →
    Ranked b → Sound n b → Plain tables.protocol b →
    b.traffic.responses ≡ [] → (IsQuiet b.traffic → ⊥) → Found tables b block
without-responses n tables k b block rs er rd h pl quiet not_quiet =
    elim (cases_eq (total (λ f. 1) b.traffic.links) 0) as (λ _. Found tables b block) [
      | inr ne ↦ any-head n tables k b block (λ f. 1) rd h pl quiet (omega (arith, ne))
      | inl z ↦
          let empty : (c : ℕ) → link b.traffic c ≡ [] = λ c. no-heads (link b.traffic c) (omega (arith, link-total (λ f. 1) b.traffic c)) in
          let no_fwd_gets : total (of_kind is_fwd_gets) b.traffic.links ≡ 0 = omega (arith, ones-above b.traffic.links) in
          requests-left n tables k b block rs er h pl quiet empty not_quiet
          (λ sd. omega (arith, h.good.blocked sd, ap (λ xs. sum_by home_data xs) quiet, no_fwd_gets))
    ]
