-- A response comes to the line of its receiver: what that makes of sides, of tags and of acks.
use Rattle.std.proofs.Common.{◌≡◌, ◌≢◌, ℕ, ◌+◌, ◌-◌, List, [], ◌∷◌, refl, ap, sym, subst, ◌∙◌, Some, Bool, true, false, not, ◌&&◌, ◌||◌, ◌==◌}
use Rattle.std.proofs.Common.{sum_by, arith, slice_get, remove, zero, suc, All, ℤ, pos, negsuc}
use Rattle.std.proofs.lemmas.Bool.{ne_eqb}
use Rattle.base.specs.declared.ids.CacheId.{CacheId}
use Rattle.base.specs.declared.ids.Place.TheVariants.{Dir, Cache}
use Rattle.network.specs.declared.message.Response.{Response}
use Rattle.network.specs.declared.message.Response.TheVariants.{Data, InvAck, DataExcl}
use Rattle.network.specs.Traffic.{Traffic, response_taken}
use Rattle.control.specs.declared.line.Line.{Line}
use Rattle.control.specs.LineEvents.{is_count}
use Rattle.control.specs.declared.home.Home.{Home}
use Rattle.machine.proofs.Counts.{only, sum_by-remove}
use Rattle.machine.proofs.Seen.{dir_data, owner_data, excl_data, home_data, inv_ack, ack_number, late_of}
use Rattle.pairs.specs.declared.side.PairSide.{PairSide}
use Rattle.pairs.specs.Sights.{with_data}
use Rattle.machine.specs.Block.{BlockState}
use Rattle.closing.proofs.Alpha.{Owing, Tags, Face, owing, side_of, shared_of, data_count}
use Rattle.closing.proofs.Sides.{same_responses, same_home_data}
use Rattle.closing.proofs.Sending.{or-some}

-- a response goes to this cache
abbrev pub Receives : CacheId → Response → Type 0
Receives cache (Data by (Cache to) value acks) = cache ≡ to
Receives cache (Data by Dir value acks) = ⊥
Receives cache (InvAck by to) = cache ≡ to
Receives cache (DataExcl to value) = cache ≡ to

-- what is so of all is so of one that is there
pub all-there : {X : Type 0} (P : X → Type 0) (xs : List X) (i : ℕ) (x : X) → All P xs → Some x ≡ slice_get xs i → P x
all-there P [] i x h e = absurd (cc)
all-there P (y ∷ ys) zero x h e = let same : x ≡ y = cc in subst (λ z. P z) (sym same) (h zero y (omega arith))
all-there P (y ∷ ys) (suc i) x h e = all-there P ys i x (λ k d lt. h (suc k) d (omega (arith, lt))) e

-- the face of a cache, where its line is this
abbrev pub face_with : Tags → BlockState → ℕ → Line → Face
face_with tags b a l = record { line = l; fresh = tags.line a; owed = owing tags b a }

-- OTHERS
-- what a response counts for a cache that it doesn't go to
pub record CountsNothing (x : ℕ) (r : Response) : Type 0 where
  pub dir : dir_data x r ≡ 0
  pub owner : owner_data x r ≡ 0
  pub excl : excl_data x r ≡ 0
  pub ack : inv_ack x r ≡ 0
  pub number : ack_number x r ≡ 0

not-there : (a to : CacheId) (x n : ℕ) → x ≢ a.0 → a ≡ to → only (to.0 == x) n ≡ 0
not-there a to x n ne same = ap (λ (t : Bool). only t n) (ne_eqb to.0 x (λ here. ne (sym here ∙ ap (λ (c : CacheId). c.0) (sym same))))

pub counts-nothing : (a : CacheId) (r : Response) (x : ℕ) → Receives a r → x ≢ a.0 → CountsNothing x r
counts-nothing a (Data Dir (Cache to) value acks) x same ne = record {
  dir = not-there a to x 1 ne same;
  owner = refl;
  excl = refl;
  ack = refl;
  number = not-there a to x acks ne same;
}
counts-nothing a (Data (Cache by) (Cache to) value acks) x same ne = record {
  dir = refl;
  owner = not-there a to x 1 ne same;
  excl = refl;
  ack = refl;
  number = refl;
}
counts-nothing a (Data by Dir value acks) x same ne = absurd same
counts-nothing a (InvAck by to) x same ne = record { dir = refl; owner = refl; excl = refl; ack = not-there a to x 1 ne same; number = refl }
counts-nothing a (DataExcl to value) x same ne = record { dir = refl; owner = refl; excl = not-there a to x 1 ne same; ack = refl; number = refl }

pub not-home : (a : CacheId) (r : Response) → Receives a r → home_data r ≡ 0
not-home a (Data by Dir value acks) same = absurd same
not-home a (Data by (Cache to) value acks) same = refl
not-home a (InvAck by to) same = refl
not-home a (DataExcl to value) same = refl

module _ (tags : Tags) (home : Home) (w : Traffic) (i : ℕ) (r : Response) (e : Some r ≡ slice_get w.responses i) where
  -- what is taken is what a count loses
  pub lost-count : (f : Response → ℕ) (n : ℕ) → f r ≡ n → sum_by f (remove w.responses i) + n ≡ sum_by f w.responses
  lost-count f n is = omega (arith, sum_by-remove f w.responses i r e, is)

  pub same-count : (f : Response → ℕ) → f r ≡ 0 → sum_by f (remove w.responses i) ≡ sum_by f w.responses
  same-count f none = omega (arith, lost-count f 0 none)

  -- a cache that isn't its receiver sees nothing of it
  pub taken-elsewhere : (f : Face) (x : ℕ) → CountsNothing x r → side_of f tags home (response_taken i w) x ≡ side_of f tags home w x
  taken-elsewhere f x none =
      let d : sum_by (dir_data x) (remove w.responses i) ≡ sum_by (dir_data x) w.responses = same-count (dir_data x) none.dir in
      let o : sum_by (owner_data x) (remove w.responses i) ≡ sum_by (owner_data x) w.responses = same-count (owner_data x) none.owner in
      let c : sum_by (excl_data x) (remove w.responses i) ≡ sum_by (excl_data x) w.responses = same-count (excl_data x) none.excl in
      same_responses (side_of f tags home w x) _ _ _ _ _ _ _ _ d o c (λ j. tags.data_to x || (d j + o j + c j == 0))

  -- nor do all see anything
  pub taken-shared : home_data r ≡ 0 → shared_of tags home (response_taken i w) ≡ shared_of tags home w
  taken-shared none =
      let n : sum_by home_data (remove w.responses i) ≡ sum_by home_data w.responses = same-count home_data none in
      same_home_data (shared_of tags home w) _ _ _ _ n (λ j. tags.home_data || (n j == 0))

-- THE RECEIVER
abbrev with_taken : PairSide → Bool → Bool → ℕ → ℕ → ℕ → Bool → PairSide
with_taken s low fresh_putm dir owner excl fresh_data =
    record s { low = low; fresh_putm = fresh_putm; dir_data = dir; owner_data = owner; excl_data = excl; fresh_data = fresh_data }

same_taken : (s : PairSide) (l l2 p p2 : Bool) (d d2 o o2 x x2 : ℕ) (f f2 : Bool) → l ≡ l2 → p ≡ p2 → d ≡ d2 → o ≡ o2 → x ≡ x2 → f ≡ f2 →
    with_taken s l p d o x f ≡ with_taken s l2 p2 d2 o2 x2 f2
same_taken s l l2 p p2 d d2 o o2 x x2 f f2 el ep ed eo ex ef = λ i. with_taken s (el i) (ep i) (ed i) (eo i) (ex i) (ef i)

or-again : (s t : Bool) → (s || t) || t ≡ s || t
or-again true t = refl
or-again false true = refl
or-again false false = refl

-- Data that was taken leaves the tag of what is still on its way
fresh-left : (tag : Bool) (before after n : ℕ) → before ≡ after + 1 → n ≡ after → (tag || (before == 0)) || (n == 0) ≡ tag || (after == 0)
fresh-left tag before after n some same = ap (λ (t : Bool). t || (n == 0)) (or-some tag before after some) ∙ ap (λ m. tag || (m == 0)) same

-- the line that takes a value in, with as many acks
abbrev pub valued : Line → ℕ → ℤ → Line
valued l value acks = record l { value = value; acks = acks }

module _ (tags : Tags) (home : Home) (w : Traffic) (i : ℕ) (r : Response) (e : Some r ≡ slice_get w.responses i) (c : ℕ) (l : Line) (fresh : Bool)
    (owed : Owing) where
  abbrev before : PairSide
  before = side_of (record { line = l; fresh = fresh; owed = owed }) tags home w c

  abbrev told : Bool
  told = tags.data_to c || (data_count c w.responses == 0)

  -- Data from the home, with as many acks awaited then
  pub dir-taken : (value : ℕ) (acks : ℤ) (low : Bool) → dir_data c r ≡ 1 → owner_data c r ≡ 0 → excl_data c r ≡ 0 → late_of acks == 0 ≡ low →
      with_data (record before { dir_data = before.dir_data - 1; low = low }) ≡
      side_of (record { line = valued l value acks; fresh = told; owed = owed }) tags home (response_taken i w) c
  dir-taken value acks low one no_owner no_excl is =
      let d : sum_by (dir_data c) (remove w.responses i) + 1 ≡ sum_by (dir_data c) w.responses = lost-count tags home w i r e (dir_data c) 1 one in
      let o : sum_by (owner_data c) (remove w.responses i) ≡ sum_by (owner_data c) w.responses = same-count tags home w i r e (owner_data c) no_owner in
      let x : sum_by (excl_data c) (remove w.responses i) ≡ sum_by (excl_data c) w.responses = same-count tags home w i r e (excl_data c) no_excl in
      same_taken (record before { fresh = told }) _ _ _ _ _ _ _ _ _ _ _ _ (sym is) (or-again (tags.putm c) (before.putm == 0)) (omega (arith, d)) (sym o)
      (sym x)
      (fresh-left (tags.data_to c) (data_count c w.responses) (data_count c (remove w.responses i)) _ (omega (arith, d, o, x)) (omega (arith, d, o, x)))

  -- Data from a cache
  pub owner-taken : (value : ℕ) → dir_data c r ≡ 0 → owner_data c r ≡ 1 → excl_data c r ≡ 0 →
      with_data (record before { owner_data = before.owner_data - 1 }) ≡
      side_of (record { line = valued l value l.acks; fresh = told; owed = owed }) tags home (response_taken i w) c
  owner-taken value no_dir one no_excl =
      let d : sum_by (dir_data c) (remove w.responses i) ≡ sum_by (dir_data c) w.responses = same-count tags home w i r e (dir_data c) no_dir in
      let o : sum_by (owner_data c) (remove w.responses i) + 1 ≡ sum_by (owner_data c) w.responses = lost-count tags home w i r e (owner_data c) 1 one in
      let x : sum_by (excl_data c) (remove w.responses i) ≡ sum_by (excl_data c) w.responses = same-count tags home w i r e (excl_data c) no_excl in
      same_taken (record before { fresh = told }) _ _ _ _ _ _ _ _ _ _ _ _ refl (or-again (tags.putm c) (before.putm == 0)) (sym d) (omega (arith, o)) (sym x)
      (fresh-left (tags.data_to c) (data_count c w.responses) (data_count c (remove w.responses i)) _ (omega (arith, d, o, x)) (omega (arith, d, o, x)))

  -- exclusive Data
  pub excl-taken : (value : ℕ) → dir_data c r ≡ 0 → owner_data c r ≡ 0 → excl_data c r ≡ 1 →
      with_data (record before { excl_data = before.excl_data - 1 }) ≡
      side_of (record { line = valued l value l.acks; fresh = told; owed = owed }) tags home (response_taken i w) c
  excl-taken value no_dir no_owner one =
      let d : sum_by (dir_data c) (remove w.responses i) ≡ sum_by (dir_data c) w.responses = same-count tags home w i r e (dir_data c) no_dir in
      let o : sum_by (owner_data c) (remove w.responses i) ≡ sum_by (owner_data c) w.responses = same-count tags home w i r e (owner_data c) no_owner in
      let x : sum_by (excl_data c) (remove w.responses i) + 1 ≡ sum_by (excl_data c) w.responses = lost-count tags home w i r e (excl_data c) 1 one in
      same_taken (record before { fresh = told }) _ _ _ _ _ _ _ _ _ _ _ _ refl (or-again (tags.putm c) (before.putm == 0)) (sym d) (sym o) (omega (arith, x))
      (fresh-left (tags.data_to c) (data_count c w.responses) (data_count c (remove w.responses i)) _ (omega (arith, d, o, x)) (omega (arith, d, o, x)))

  -- an Inv-Ack, after which some may be owed or not
  pub ack-taken : (acks : ℤ) (still low : Bool) → dir_data c r ≡ 0 → owner_data c r ≡ 0 → excl_data c r ≡ 0 → late_of acks == 0 ≡ low →
      record before { owed = still; low = low } ≡
      side_of (record { line = record l { acks = acks }; fresh = fresh; owed = record { any = still; lag = owed.lag } }) tags home (response_taken i w) c
  ack-taken acks still low no_dir no_owner no_excl is =
      let d : sum_by (dir_data c) (remove w.responses i) ≡ sum_by (dir_data c) w.responses = same-count tags home w i r e (dir_data c) no_dir in
      let o : sum_by (owner_data c) (remove w.responses i) ≡ sum_by (owner_data c) w.responses = same-count tags home w i r e (owner_data c) no_owner in
      let x : sum_by (excl_data c) (remove w.responses i) ≡ sum_by (excl_data c) w.responses = same-count tags home w i r e (excl_data c) no_excl in
      same_taken (record before { owed = still }) _ _ _ _ _ _ _ _ _ _ _ _ (sym is) refl (sym d) (sym o) (sym x)
      (ap (λ n. tags.data_to c || (n == 0)) (omega (arith, d, o, x)))

-- ACKS
-- none is the last that the line waits for where it waits for none
pub not-last : (a : ℤ) → not ((late_of a == 0) && is_count a 1) ≡ true
not-last (pos m) = grind arith
not-last (negsuc m) = refl
