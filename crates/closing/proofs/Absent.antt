-- A cache that isn't there has no messages: whatever goes to caches that are there doesn't go to it.
use Rattle.std.proofs.Common.{◌≡◌, ℕ, ◌<◌, ◌≤◌, List, [], ◌∷◌, refl, ap, Bool, true, ◌||◌, ◌==◌, sum_by, arith}
use Rattle.std.proofs.lemmas.Bool.{ne_eqb}
use Rattle.std.proofs.lemmas.List.Sums.{sum_by-cons}
use Rattle.base.specs.declared.ids.Place.TheVariants.{Dir, Cache}
use Rattle.network.specs.declared.message.Request.{Request}
use Rattle.network.specs.declared.message.RequestKind.{RequestKind}
use Rattle.network.specs.declared.message.Response.{Response}
use Rattle.network.specs.declared.message.Response.TheVariants.{Data, InvAck, DataExcl}
use Rattle.directory_table.specs.declared.state.DirectoryState.{DirectoryState}
use Rattle.tables.specs.Tables.{Tables}
use Rattle.machine.specs.Block.{AllFrom}
use Rattle.machine.proofs.Counts.{only}
use Rattle.machine.proofs.Seen.{from, dir_data, owner_data, excl_data, inv_ack}
use Rattle.pairs.specs.declared.link.LinkPlace.{LinkPlace}
use Rattle.pairs.specs.declared.side.PairSide.{PairSide}
use Rattle.closing.specs.Blamed.{holds_head, holds_side}
use Rattle.closing.proofs.AlphaFits.{all-four, both}
use Rattle.closing.proofs.Receivers.{AllGoBelow, GoesBelow}

-- all messages of a cache without any are held
pub idle-held : (tables : Tables) (h : DirectoryState) (s : PairSide) → s.link ≡ [] → s.gets ≡ 0 → s.getm ≡ 0 → s.puts ≡ 0 → s.putm ≡ 0 → s.dir_data ≡ 0 →
    s.owner_data ≡ 0 → s.excl_data ≡ 0 → holds_side tables h s ≡ true
idle-held tables h s l g m ps pm d o x =
    both _ _ (both _ _ (ap (λ (xs : List LinkPlace). holds_head tables s.state xs) l)
    (all-four _ _ _ _ (none s.gets _ g) (none s.getm _ m) (none s.puts _ ps) (none s.putm _ pm)))
    (both _ _ (both _ _ (none s.dir_data _ d) (none s.owner_data _ o)) (none s.excl_data _ x))
  where
    none : (n : ℕ) (t : Bool) → n ≡ 0 → (n == 0) || t ≡ true
    none n t e = ap (λ (k : ℕ). (k == 0) || t) e

pub none-from : (n c : ℕ) (kind : RequestKind → ℕ) (rs : List Request) → AllFrom n rs → n ≤ c → sum_by (from c kind) rs ≡ 0
none-from n c kind [] h le = refl
none-from n c kind (r ∷ rs) h le =
    omega (
      arith,
      sum_by-cons (from c kind) r rs,
      none-from n c kind rs h.1 le,
      ap (λ (t : Bool). only t (kind r.kind)) (ne_eqb r.from.0 c (λ e. absurd (omega (arith, e, h.0, le)))),
    )

-- a weight that is none for whatever goes to caches that are there is none for another one
pub none-to : (n : ℕ) (f : Response → ℕ) (rs : List Response) → ((r : Response) → GoesBelow n r → f r ≡ 0) → AllGoBelow n rs → sum_by f rs ≡ 0
none-to n f [] none h = refl
none-to n f (r ∷ rs) none h = omega (arith, sum_by-cons f r rs, none r h.0, none-to n f rs none h.1)

not-here : (to n c k : ℕ) → to < n → n ≤ c → only (to == c) k ≡ 0
not-here to n c k lt le = ap (λ (t : Bool). only t k) (ne_eqb to c (λ e. absurd (omega (arith, e, lt, le))))

pub no-dir : (n c : ℕ) → n ≤ c → (r : Response) → GoesBelow n r → dir_data c r ≡ 0
no-dir n c le (Data Dir (Cache to) value acks) h = not-here to.0 n c 1 h le
no-dir n c le (Data Dir Dir value acks) h = refl
no-dir n c le (Data (Cache by) to value acks) h = refl
no-dir n c le (InvAck by to) h = refl
no-dir n c le (DataExcl to value) h = refl

pub no-owner : (n c : ℕ) → n ≤ c → (r : Response) → GoesBelow n r → owner_data c r ≡ 0
no-owner n c le (Data (Cache by) (Cache to) value acks) h = not-here to.0 n c 1 h le
no-owner n c le (Data (Cache by) Dir value acks) h = refl
no-owner n c le (Data Dir to value acks) h = refl
no-owner n c le (InvAck by to) h = refl
no-owner n c le (DataExcl to value) h = refl

pub no-excl : (n c : ℕ) → n ≤ c → (r : Response) → GoesBelow n r → excl_data c r ≡ 0
no-excl n c le (DataExcl to value) h = not-here to.0 n c 1 h le
no-excl n c le (Data by to value acks) h = refl
no-excl n c le (InvAck by to) h = refl

pub no-ack : (n c : ℕ) → n ≤ c → (r : Response) → GoesBelow n r → inv_ack c r ≡ 0
no-ack n c le (InvAck by to) h = not-here to.0 n c 1 h le
no-ack n c le (Data by to value acks) h = refl
no-ack n c le (DataExcl to value) h = refl
