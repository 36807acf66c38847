-- A copy has the state of what it was copied from.
use Rattle.std.proofs.Common.{◌≡◌, ℕ, List, [], ◌∷◌, Option, Some, None, Bool, false, refl, ap, sym, subst, ◌∙◌, get_or, map}
use Rattle.std.specs.Option.{option_map}
use Rattle.std.proofs.Math.ListN.{get_or-map}
use Rattle.network.specs.Marks.{Marks}
use Rattle.machine.specs.Block.{BlockState, opened_block}
use Rattle.tables.specs.Tables.{Tables}
use Rattle.blocks.specs.View.{BlockView}
use Rattle.blocks.specs.Marking.{marks_of}
use Rattle.rows.specs.Flags.{is_set}
use Rattle.world.specs.Keeping.{has_line}
use Rattle.world.specs.View.{space_of, spaces_of, states}
use Rattle.world.specs.inner.Holding.{kept_at}
use Rattle.world.specs.inner.Tests.{IsMarked}
use Rattle.world.proofs.Keeping.{space-at}

-- what a copy of a block has of it
abbrev pub Seen : Type 0
Seen = record { state : BlockState; marks : Marks; lines : List Bool }

abbrev pub seen : BlockView → Seen
seen k = record { state = k.state; marks = k.marks; lines = k.space.lines }

abbrev seen_or : ℕ → ℕ → Option Seen → BlockState
seen_or caches value None = opened_block caches value
seen_or caches value (Some s) = s.state

abbrev states_of : ℕ → List ℕ → List (Option Seen) → List BlockState
states_of caches [] os = []
states_of caches (value ∷ values) [] = opened_block caches value ∷ states_of caches values []
states_of caches (value ∷ values) (o ∷ os) = seen_or caches value o ∷ states_of caches values os

states-seen : (caches : ℕ) (values : List ℕ) (ks : List (Option BlockView)) → states caches values ks ≡ states_of caches values (map (option_map seen) ks)
states-seen caches [] ks = refl
states-seen caches (v ∷ values) [] = ap (λ bs. opened_block caches v ∷ bs) (states-seen caches values [])
states-seen caches (v ∷ values) (None ∷ ks) = ap (λ bs. opened_block caches v ∷ bs) (states-seen caches values ks)
states-seen caches (v ∷ values) (Some k ∷ ks) = ap (λ bs. k.state ∷ bs) (states-seen caches values ks)

-- the blocks are in the same states
pub states-copied : (caches : ℕ) (values : List ℕ) (copy ks : List (Option BlockView)) → map (option_map seen) copy ≡ map (option_map seen) ks →
    states caches values copy ≡ states caches values ks
states-copied caches values copy ks e = states-seen caches values copy ∙ ap (states_of caches values) e ∙ sym (states-seen caches values ks)

abbrev IsMarkedSeen : Tables → Option Seen → Type 0
IsMarkedSeen tables None = Unit {0}
IsMarkedSeen tables (Some s) = s.marks ≡ marks_of tables s.state

seen-marked : (tables : Tables) (k : Option BlockView) → IsMarked tables k → IsMarkedSeen tables (option_map seen k)
seen-marked tables None m = tt
seen-marked tables (Some k) m = m

marked-seen : (tables : Tables) (k : Option BlockView) → IsMarkedSeen tables (option_map seen k) → IsMarked tables k
marked-seen tables None m = tt
marked-seen tables (Some k) m = m

seen-at : (ks : List (Option BlockView)) (i : ℕ) → get_or (map (option_map seen) ks) i None ≡ option_map seen (kept_at ks i)
seen-at ks i = get_or-map (option_map seen) ks i None

not-seen : (k : Option BlockView) → option_map seen k ≡ None → k ≡ None
not-seen None none = refl
not-seen (Some k) none = absurd (cc none)

-- and none is kept but where one was
pub none-copied : (copy ks : List (Option BlockView)) → map (option_map seen) copy ≡ map (option_map seen) ks → (i : ℕ) → kept_at ks i ≡ None →
    kept_at copy i ≡ None
none-copied copy ks e i none =
    not-seen (kept_at copy i)
    (sym (seen-at copy i) ∙ ap (λ os. get_or os i None) e ∙ seen-at ks i ∙ ap (option_map seen) none)

abbrev has_line_seen : Option Seen → ℕ → Bool
has_line_seen None cache = false
has_line_seen (Some s) cache = is_set s.lines cache

line-seen : (k : Option BlockView) (cache : ℕ) → has_line (space_of k) cache ≡ has_line_seen (option_map seen k) cache
line-seen None cache = refl
line-seen (Some k) cache = refl

-- and keep the same lines
pub lines-copied : (copy ks : List (Option BlockView)) → map (option_map seen) copy ≡ map (option_map seen) ks → (i cache : ℕ) →
    has_line (get_or (spaces_of copy) i None) cache ≡ has_line (get_or (spaces_of ks) i None) cache
lines-copied copy ks e i cache =
    ap (λ o. has_line o cache) (space-at copy i) ∙ line-seen (kept_at copy i) cache
    ∙ ap (λ o. has_line_seen o cache) (sym (seen-at copy i) ∙ ap (λ os. get_or os i None) e ∙ seen-at ks i) ∙ sym (line-seen (kept_at ks i) cache)
    ∙ ap (λ o. has_line o cache) (sym (space-at ks i))

-- and have the same marks
pub marked-copied : (tables : Tables) (copy ks : List (Option BlockView)) → map (option_map seen) copy ≡ map (option_map seen) ks →
    ((i : ℕ) → IsMarked tables (kept_at ks i)) → (i : ℕ) → IsMarked tables (kept_at copy i)
marked-copied tables copy ks e m i =
    marked-seen tables (kept_at copy i)
    (subst (IsMarkedSeen tables) (sym (seen-at ks i) ∙ ap (λ os. get_or os i None) (sym e) ∙ seen-at copy i) (seen-marked tables (kept_at ks i) (m i)))
