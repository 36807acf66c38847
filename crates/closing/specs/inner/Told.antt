-- Lists of what the steps of a ranked pair lead to.
use Rattle.std.specs.Prelude.{◌≡◌, ◌≤◌, ◌<◌, ℕ, List, Bool, true, false, Some, Contains, IsTrue, slice_get}
use Rattle.std.specs.Global.{Vec}
use Rattle.tables.specs.Tables.{Tables}
use Rattle.control.specs.LineEffect.{is_reader, is_writer}
use Rattle.pairs.specs.declared.pair.Pair.{Pair}
use Rattle.pairs.specs.declared.steps.Party.{Party}
use Rattle.pairs.specs.declared.steps.Party.TheVariants.{Second, Third}
use Rattle.pairs.specs.declared.steps.Rule.{Rule}
use Rattle.pairs.specs.declared.steps.Sight.{Sight}
use Rattle.pairs.specs.declared.steps.Sight.TheVariants.{Unmoved, Lost, Spoilt, Seen}
use Rattle.pairs.specs.Marking.{IsMarked}
use Rattle.pairs.specs.Pairs.{fits, is_few}
use Rattle.pairs.specs.Sights.{sight, home_data_seen}
use Rattle.closing.specs.declared.following.Followed.{Followed}
use Rattle.closing.specs.declared.numbering.ViewNumbers.{ViewNumbers}
use Rattle.closing.specs.declared.numbering.Span.{Span}
use Rattle.closing.specs.declared.ranked.RankedPair.{RankedPair}
use Rattle.closing.specs.Closed.{AreAlike, are_apart, glued}
use Rattle.closing.specs.Ranked.{ranked, turned_pair, order_after, LeadsTo, KeepsBalance, Ranked}

-- what comes of a pair by a rule is told by these
abbrev pub IsTold : List Followed → Rule → Sight → Type 0
IsTold told rule Unmoved = Unit {0}
IsTold told rule Lost = ⊥
IsTold told rule (Spoilt Third) = Unit {0}
IsTold told rule (Spoilt concerned) = ⊥
IsTold told rule (Seen concerned p) = Contains told (record { rule = rule; concerned = concerned; after = p })

-- all steps of a pair are told
abbrev pub TellsAll : Tables → Pair → List Followed → Type 0
TellsAll tables p told = (rule : Rule) (guess : Bool) → IsTold told rule (sight tables rule guess p)

-- where a step concerns no third cache, it leads to one of these
abbrev pub LeadsInto : List RankedPair → RankedPair → Followed → Type 0
LeadsInto list r f = LeadsTo list f.concerned (ranked f.after (order_after f.rule r.order))

-- so do all of these steps
abbrev pub AllLeadInto : List RankedPair → RankedPair → List Followed → Type 0
AllLeadInto list r steps = (k : ℕ) (f : Followed) → slice_get steps k ≡ Some f → LeadsInto list r f

-- all of the first are among the second
abbrev pub AreAmong : List Followed → List Followed → Type 0
AreAmong steps all = (f : Followed) → Contains steps f → Contains all f

-- two steps may be one, as two pairs of its actor see it
abbrev pub AreOne : Followed → Followed → Type 0
AreOne f g = (f.rule ≡ g.rule) × (f.after.shared ≡ g.after.shared) × (f.after.first ≡ g.after.first)

-- the pair of the cache that a step doesn't concern is one of these, where the other one is concerned
abbrev pub KeepsOther : List RankedPair → RankedPair → Party → Party → Followed → Type 0
KeepsOther list q Second Third g = Contains list (ranked g.after (order_after g.rule q.order))
KeepsOther list q one other g = Unit {0}

-- such a step leads to one of these in the third pair
abbrev pub Glues : List RankedPair → RankedPair → RankedPair → Followed → Followed → Type 0
Glues list q r f g =
    AreAlike f.concerned g.concerned → KeepsOther list q f.concerned g.concerned g ×
    (IsTrue (fits (glued f.after g.after r.pair)) → Contains list (ranked (glued f.after g.after r.pair) r.order))

-- it does over each third pair that stands within a span and has this number as its second one
abbrev pub GluesOver : List RankedPair → List ℕ → Span → ℕ → RankedPair → Followed → Followed → Type 0
GluesOver list seconds span second q f g =
    (l : ℕ) (r : RankedPair) → span.begin ≤ l → l < span.end → slice_get seconds l ≡ Some second → slice_get list l ≡ Some r → Glues list q r f g

-- all of these do with the first, which are one with it
abbrev pub AllGlueOver : List RankedPair → List ℕ → Span → ℕ → RankedPair → Followed → List Followed → Type 0
AllGlueOver list seconds span second q f theirs =
    (n : ℕ) (g : Followed) → slice_get theirs n ≡ Some g → AreOne f g → GluesOver list seconds span second q f g

-- all that are one do
abbrev pub GlueTogether : List RankedPair → List ℕ → Span → ℕ → RankedPair → List Followed → List Followed → Type 0
GlueTogether list seconds span second q mine theirs =
    (m : ℕ) (f : Followed) → slice_get mine m ≡ Some f → (n : ℕ) (g : Followed) → slice_get theirs n ≡ Some g → AreOne f g →
    GluesOver list seconds span second q f g

-- all steps of two pairs do, of which the other one stands here
abbrev pub GluesWith : List RankedPair → List ℕ → List (Vec Followed) → RankedPair → List Followed → Span → ℕ → Type 0
GluesWith list seconds steps p mine between place =
    (q : RankedPair) (theirs : Vec Followed) (second : ℕ) → slice_get list place ≡ Some q → slice_get steps place ≡ Some theirs →
    slice_get seconds place ≡ Some second → IsTrue (are_apart p.pair.first_names q.pair.first_names) →
    GlueTogether list seconds between second q mine theirs.items

-- the pair that stands here does with each that begins like it
abbrev pub GluesAt : List RankedPair → ViewNumbers → List (Vec Followed) → ℕ → Type 0
GluesAt list numbers steps place =
    (p : RankedPair) (mine : Vec Followed) (n m : ℕ) (beside between : Span) → slice_get list place ≡ Some p → slice_get steps place ≡ Some mine →
    slice_get numbers.firsts.items place ≡ Some n → slice_get numbers.seconds.items place ≡ Some m → slice_get numbers.spans.items n ≡ Some beside →
    slice_get numbers.spans.items m ≡ Some between →
    (j : ℕ) → beside.begin ≤ j → j < beside.end → GluesWith list numbers.seconds.items steps p mine.items between j

-- what comes of a ranked pair where Data comes to the home is one of these
abbrev pub Stays : List RankedPair → RankedPair → Sight → Type 0
Stays list r Unmoved = Unit {0}
Stays list r Lost = ⊥
Stays list r (Spoilt Third) = Unit {0}
Stays list r (Spoilt concerned) = ⊥
Stays list r (Seen concerned q) = LeadsTo list concerned (ranked q r.order)

-- so it is whatever a third cache shares
abbrev pub HomeStays : Tables → List RankedPair → RankedPair → Type 0
HomeStays tables list r = (third_shares : Bool) → Stays list r (home_data_seen tables third_shares r.pair)

-- the first cache isn't a writer beside a reader
abbrev pub IsSingle : Pair → Type 0
IsSingle p = is_writer p.first.state ≡ true → is_reader p.second.state ≡ false

-- each is followed, stands here in the other order too, has no writer beside a reader, and stays where Data comes to the home
pub record IsSound (tables : Tables) (list : List RankedPair) (r : RankedPair) : Type 0 where
  pub few : is_few r.pair ≡ true
  pub marked : IsMarked r.pair
  pub turned : Contains list (turned_pair r)
  pub single : IsSingle r.pair
  pub home_data : HomeStays tables list r

abbrev pub AreSound : Tables → List RankedPair → Type 0
AreSound tables list = (k : ℕ) (r : RankedPair) → slice_get list k ≡ Some r → IsSound tables list r

-- the steps of a ranked pair are told, and lead to these
pub record IsFollowedBy (tables : Tables) (list : List RankedPair) (r : RankedPair) (steps : List Followed) : Type 0 where
  pub told : TellsAll tables r.pair steps
  pub leads : AllLeadInto list r steps

abbrev pub AreTold : Tables → List RankedPair → List (Vec Followed) → Type 0
AreTold tables list steps =
    (k : ℕ) (r : RankedPair) → slice_get list k ≡ Some r → (told : Vec Followed) × (slice_get steps k ≡ Some told) × IsFollowedBy tables list r told.items

-- no step leaves a list, and these are all of them
pub record Keeps (tables : Tables) (list : List RankedPair) (steps : List (Vec Followed)) : Type 0 where
  pub ranked : Ranked tables list
  pub sound : AreSound tables list
  pub told : AreTold tables list steps

-- what comes of Data at the home keeps the balance
abbrev pub KeepsBalanceIn : Pair → Sight → Type 0
KeepsBalanceIn p (Seen concerned q) = KeepsBalance concerned p q
KeepsBalanceIn p other = Unit {0}

-- it does whatever a third cache shares
abbrev pub HomeKeepsBalance : Tables → Pair → Type 0
HomeKeepsBalance tables p = (third_shares : Bool) → KeepsBalanceIn p (home_data_seen tables third_shares p)

-- all of these steps do
abbrev pub AllKeepBalance : Pair → List Followed → Type 0
AllKeepBalance p steps = (k : ℕ) (f : Followed) → slice_get steps k ≡ Some f → KeepsBalance f.concerned p f.after

-- both do of a pair
pub record IsBalanced (tables : Tables) (p : Pair) (told : List Followed) : Type 0 where
  pub steps : AllKeepBalance p told
  pub home_data : HomeKeepsBalance tables p

abbrev pub AreBalanced : Tables → List RankedPair → List (Vec Followed) → Type 0
AreBalanced tables list steps =
    (k : ℕ) (r : RankedPair) (told : Vec Followed) → slice_get list k ≡ Some r → slice_get steps k ≡ Some told → IsBalanced tables r.pair told.items
