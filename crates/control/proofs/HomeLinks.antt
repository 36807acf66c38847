use Rattle.std.proofs.Common.{◌≡◌, ◌≢◌, ◌≤◌, ℕ, ◌+◌, ◌<◌, List, [], ◌∷◌, ◌++◌, length, refl, sym, ◌∙◌, ap, zero, suc, add-one, arith, Option}
use Rattle.std.proofs.Common.{Some, None, Bool, true, false, lt-ltb, le-ltb, ◌==◌, inl, inr, replicate, if◌then◌else◌}
use Rattle.std.proofs.lemmas.List.{length-append, length-replicate, get_or_past}
use Rattle.std.proofs.lemmas.Bool.{cases_eq, cases_lt, cases_Bool, ne_eqb}
use Rattle.std.proofs.lemmas.Bool.Decides.{eqb_tells}
use Rattle.base.specs.declared.ids.CacheId.{CacheId}
use Rattle.network.specs.declared.message.Message.{Message}
use Rattle.network.specs.declared.message.Message.TheVariants as message
use Rattle.network.specs.Room.{one_if, times, AllBelow, forwards_in, forward_count}
use Rattle.directory_table.specs.declared.actions.DirectoryAction.{DirectoryAction}
use Rattle.control.specs.declared.home.Home.{Home}
use Rattle.control.specs.HomeEvents.{owns}
use Rattle.control.specs.HomeEffect.{home_messages}
use Rattle.control.specs.Homes.{NamesBelow}
use Rattle.control.specs.inner.HomeCounting.{forwards_to, links_to, links_to_any, links_below, links_of, unflagged, unflagged_owner, unflagged_sender}
use Rattle.control.proofs.HomeCounts.{cache, eqb-self, forwards-to, unnamed, no-forwards}

times-append : (k : ℕ) (xs ys : List CacheId) → times k (xs ++ ys) ≡ times k xs + times k ys
times-append k [] ys = omega arith
times-append k (x ∷ xs) ys = omega (arith, times-append k xs ys)

times-replicate_same : (n : ℕ) (c : CacheId) → times c.0 (replicate n c) ≡ n
times-replicate_same zero c = refl
times-replicate_same (suc n) c = omega (arith, ap one_if (eqb-self c.0), times-replicate_same n c)

times-replicate_other : (k n : ℕ) (c : CacheId) → k ≢ c.0 → times k (replicate n c) ≡ 0
times-replicate_other k zero c ne = refl
times-replicate_other k (suc n) c ne = omega (arith, ap one_if (ne_eqb c.0 k (λ e. ne (sym e))), times-replicate_other k n c ne)

-- the links below one more number
pub below-more : (i : ℕ) (from : CacheId) (actions : List DirectoryAction) (home : Home)
    → links_below (i + 1) from actions home ≡ links_below i from actions home ++ links_to (cache i) from actions home
below-more i from actions home = rw (add-one i) refl

-- the links of one cache more aren't more than those below a number
pub below-within : (i n : ℕ) (from : CacheId) (actions : List DirectoryAction) (home : Home) → i < n
    → length (links_below i from actions home) + forwards_to (cache i) from actions home ≤ length (links_below n from actions home)
below-within i zero from actions home lt = absurd (omega arith)
below-within i (suc n) from actions home lt =
    let long : length (links_below (suc n) from actions home) ≡ length (links_below n from actions home) + length (links_to (cache n) from actions home) =
    length-append (links_below n from actions home) (links_to (cache n) from actions home) in
    elim (cases_eq i n) [
      | inl e ↦
          let last : length (links_to (cache n) from actions home) ≡ forwards_to (cache n) from actions home =
          length-replicate (forwards_to (cache n) from actions home) (cache n) in
          rw e (omega (arith, long, last))
      | inr ne ↦ omega (arith, long, below-within i n from actions home (omega (arith, ne)))
    ]

-- the list has the links below the flags, then those of an owner and a sender without a flag
pub length-links_of : (from : CacheId) (actions : List DirectoryAction) (home : Home)
    → length (links_of from actions home)
    ≡ length (links_below (length home.sharers) from actions home)
    + (length (links_to_any (unflagged_owner home.owner home) from actions home) + length (links_to_any (unflagged_sender from home) from actions home))
length-links_of from actions home =
    let owner : List CacheId = links_to_any (unflagged_owner home.owner home) from actions home in
    let sender : List CacheId = links_to_any (unflagged_sender from home) from actions home in
    omega (arith, length-append (links_below (length home.sharers) from actions home) (owner ++ sender), length-append owner sender)

-- how often a cache is listed among the links of another, and of those below a number
times-to : (k : ℕ) (c from : CacheId) (actions : List DirectoryAction) (home : Home)
    → times k (links_to c from actions home) ≡ (if c.0 == k then forwards_to (cache k) from actions home else 0)
times-to k c from actions home = elim (eqb_tells c.0 k) [
  | inl s ↦ rw s.0
      (ap (λ (n : ℕ). times n (links_to c from actions home)) (sym s.1)
      ∙ times-replicate_same (forwards_to c from actions home) c
      ∙ ap (λ (n : ℕ). forwards_to (cache n) from actions home) s.1)
  | inr d ↦ rw d.0 (times-replicate_other k (forwards_to c from actions home) c (λ e. d.1 (sym e)))
]

times-to_other : (k : ℕ) (c from : CacheId) (actions : List DirectoryAction) (home : Home) → k ≢ c.0 → times k (links_to c from actions home) ≡ 0
times-to_other k c from actions home ne = times-replicate_other k (forwards_to c from actions home) c ne

times-below_past : (n k : ℕ) (from : CacheId) (actions : List DirectoryAction) (home : Home) → n ≤ k → times k (links_below n from actions home) ≡ 0
times-below_past zero k from actions home le = refl
times-below_past (suc n) k from actions home le =
    omega (
      arith,
      times-append k (links_below n from actions home) (links_to (cache n) from actions home),
      times-below_past n k from actions home (omega arith),
      times-to_other k (cache n) from actions home (λ e. absurd (omega (arith, e))),
    )

times-below : (n k : ℕ) (from : CacheId) (actions : List DirectoryAction) (home : Home) → k < n
    → times k (links_below n from actions home) ≡ forwards_to (cache k) from actions home
times-below zero k from actions home lt = absurd (omega arith)
times-below (suc n) k from actions home lt =
    let both : times k (links_below (suc n) from actions home) ≡ times k (links_below n from actions home) + times k (links_to (cache n) from actions home) =
    times-append k (links_below n from actions home) (links_to (cache n) from actions home) in
    elim (cases_eq k n) [
      | inl e ↦
          let here : times k (links_to (cache n) from actions home) ≡ forwards_to (cache k) from actions home =
          rw e (times-replicate_same (forwards_to (cache n) from actions home) (cache n)) in
          omega (arith, both, here, times-below_past n k from actions home (omega (arith, e)))
      | inr ne ↦ omega (arith, both, times-below n k from actions home (omega (arith, ne)), times-to_other k (cache n) from actions home ne)
    ]

-- a cache with a flag isn't listed once more
unflagged-below : (k : ℕ) (c from : CacheId) (actions : List DirectoryAction) (home : Home) → k < length home.sharers
    → times k (links_to_any (unflagged c home) from actions home) ≡ 0
unflagged-below k c from actions home lt = elim (cases_lt c.0 (length home.sharers)) [
  | inl here ↦ rw (lt-ltb c.0 (length home.sharers) here) refl
  | inr le ↦ rw (le-ltb c.0 (length home.sharers) le) (times-to_other k c from actions home (λ e. absurd (omega (arith, e, lt, le))))
]

owner-below : (k : ℕ) (owner : Option CacheId) (from : CacheId) (actions : List DirectoryAction) (home : Home) → k < length home.sharers
    → times k (links_to_any (unflagged_owner owner home) from actions home) ≡ 0
owner-below k None from actions home lt = refl
owner-below k (Some o) from actions home lt = unflagged-below k o from actions home lt

sender-below : (k : ℕ) (from : CacheId) (actions : List DirectoryAction) (home : Home) → k < length home.sharers
    → times k (links_to_any (unflagged_sender from home) from actions home) ≡ 0
sender-below k from actions home lt = by-test (owns home.owner from)
  where
    by-test : (t : Bool) → times k (links_to_any (if t then None else unflagged from home) from actions home) ≡ 0
    by-test true = refl
    by-test false = unflagged-below k from from actions home lt

-- one without a flag is listed as the owner, or else as the sender
unflagged-past : (k : ℕ) (c from : CacheId) (actions : List DirectoryAction) (home : Home) → length home.sharers ≤ k
    → times k (links_to_any (unflagged c home) from actions home) ≡ (if c.0 == k then forwards_to (cache k) from actions home else 0)
unflagged-past k c from actions home past = elim (cases_lt c.0 (length home.sharers)) [
  | inl here ↦ rw (lt-ltb c.0 (length home.sharers) here, ne_eqb c.0 k (λ e. absurd (omega (arith, e, here, past)))) refl
  | inr le ↦ rw (le-ltb c.0 (length home.sharers) le) (times-to k c from actions home)
]

owner-past : (k : ℕ) (owner : Option CacheId) (from : CacheId) (actions : List DirectoryAction) (home : Home) → length home.sharers ≤ k
    → times k (links_to_any (unflagged_owner owner home) from actions home) ≡ (if owns owner (cache k) then forwards_to (cache k) from actions home else 0)
owner-past k None from actions home past = refl
owner-past k (Some o) from actions home past = unflagged-past k o from actions home past

sender-past : (k : ℕ) (from : CacheId) (actions : List DirectoryAction) (home : Home) → length home.sharers ≤ k
    → times k (links_to_any (unflagged_sender from home) from actions home)
    ≡ (if owns home.owner from then 0 else (if from.0 == k then forwards_to (cache k) from actions home else 0))
sender-past k from actions home past = by-test (owns home.owner from)
  where
    by-test : (t : Bool) → times k (links_to_any (if t then None else unflagged from home) from actions home)
        ≡ (if t then 0 else (if from.0 == k then forwards_to (cache k) from actions home else 0))
    by-test true = refl
    by-test false = unflagged-past k from from actions home past

either : (k count : ℕ) (owner : Option CacheId) (from : CacheId) → (owns owner (cache k) ≡ false → k ≢ from.0 → count ≡ 0)
    → (if owns owner (cache k) then count else 0) + (if owns owner from then 0 else (if from.0 == k then count else 0)) ≡ count
either k count owner from none = elim (eqb_tells from.0 k) [
  | inl s ↦
      let same : owns owner from ≡ owns owner (cache k) = ap (λ (n : ℕ). owns owner (cache n)) s.1 in
      rw (s.0, same) (by-owner (owns owner (cache k)))
  | inr d ↦
      rw d.0 (elim (cases_Bool (owns owner (cache k))) [
        | inl o ↦ rw o (omega (arith, nothing (owns owner from)))
        | inr o ↦ rw o (omega (arith, nothing (owns owner from), none o (λ e. d.1 (sym e))))
      ])
]
  where
    by-owner : (t : Bool) → (if t then count else 0) + (if t then 0 else count) ≡ count
    by-owner true = omega arith
    by-owner false = omega arith

    nothing : (t : Bool) → ◌≡◌ {A = ℕ} (if t then 0 else 0) 0
    nothing true = refl
    nothing false = refl

-- each link is listed as often as the actions put a message on it
times-of : (k : ℕ) (from : CacheId) (actions : List DirectoryAction) (home : Home)
    → times k (links_of from actions home) ≡ forwards_to (cache k) from actions home
times-of k from actions home =
    let below : List CacheId = links_below (length home.sharers) from actions home in
    let owner : List CacheId = links_to_any (unflagged_owner home.owner home) from actions home in
    let sender : List CacheId = links_to_any (unflagged_sender from home) from actions home in
    let all : times k (links_of from actions home) ≡ times k below + (times k owner + times k sender) =
    omega (arith, times-append k below (owner ++ sender), times-append k owner sender) in
    elim (cases_lt k (length home.sharers)) [
      | inl lt ↦ omega (
        arith,
        all,
        times-below (length home.sharers) k from actions home lt,
        owner-below k home.owner from actions home lt,
        sender-below k from actions home lt,
      )
      | inr le ↦
          let none : owns home.owner (cache k) ≡ false → k ≢ from.0 → forwards_to (cache k) from actions home ≡ 0 =
          λ o ne. unnamed k from actions home o ne (get_or_past home.sharers k false le) in
          omega (
            arith,
            all,
            times-below_past (length home.sharers) k from actions home le,
            owner-past k home.owner from actions home le,
            sender-past k from actions home le,
            either k (forwards_to (cache k) from actions home) home.owner from none,
          )
    ]

-- the list holds the link of each message
pub listed-all : (k : ℕ) (from : CacheId) (value : Option ℕ) (actions : List DirectoryAction) (home : Home)
    → forwards_in k (home_messages (Some from) value actions home) ≡ times k (links_of from actions home)
listed-all k from value actions home = forwards-to k from value actions home ∙ sym (times-of k from actions home)

-- a list in which no cache from a number on stands
all-below : (n : ℕ) (cs : List CacheId) → ((k : ℕ) → n ≤ k → times k cs ≡ 0) → AllBelow n cs
all-below n [] none = tt
all-below n (c ∷ cs) none = (here, all-below n cs (λ k le. omega (arith, none k le)))
  where
    here : c.0 < n
    here = elim (cases_lt c.0 n) [
      | inl lt ↦ lt
      | inr le ↦ absurd (omega (arith, none c.0 le, ap one_if (eqb-self c.0)))
    ]

-- each listed cache is one that the home names, or the sender
pub listed-below : (n : ℕ) (from : CacheId) (actions : List DirectoryAction) (home : Home) → NamesBelow n home → from.0 < n
    → AllBelow n (links_of from actions home)
listed-below n from actions home h l =
    all-below n (links_of from actions home) (λ k le. times-of k from actions home ∙ no-forwards n k from actions home le h l)

-- a list without a cache once
drop-one : ℕ → List CacheId → List CacheId
drop-one i [] = []
drop-one i (c ∷ cs) = if c.0 == i then cs else c ∷ drop-one i cs

length-drop_one : (i : ℕ) (cs : List CacheId) → 0 < times i cs → length (drop-one i cs) + 1 ≡ length cs
unfolding drop-one
length-drop_one i [] some = absurd (omega arith)
length-drop_one i (c ∷ cs) some = elim (eqb_tells c.0 i) [
  | inl s ↦ rw s.0 (omega arith)
  | inr d ↦ rw d.0 (omega (arith, length-drop_one i cs (omega (arith, some, ap one_if d.0))))
]

times-drop_one : (i : ℕ) (cs : List CacheId) → 0 < times i cs → (k : ℕ) → times k (drop-one i cs) + one_if (i == k) ≡ times k cs
unfolding drop-one
times-drop_one i [] some k = absurd (omega arith)
times-drop_one i (c ∷ cs) some k = elim (eqb_tells c.0 i) [
  | inl s ↦
      let same : one_if (c.0 == k) ≡ one_if (i == k) = ap (λ (n : ℕ). one_if (n == k)) s.1 in
      rw s.0 (omega (arith, same))
  | inr d ↦ rw d.0 (omega (arith, times-drop_one i cs (omega (arith, some, ap one_if d.0)) k))
]

-- a list that holds the link of each message is as long as there are forwards
same-length : (ms : List Message) (cs : List CacheId) → ((k : ℕ) → forwards_in k ms ≡ times k cs) → forward_count ms ≡ length cs
same-length [] [] same = refl
same-length [] (c ∷ cs) same = absurd (omega (arith, same c.0, ap one_if (eqb-self c.0)))
same-length (message.Request r ∷ ms) cs same = same-length ms cs same
same-length (message.Response r ∷ ms) cs same = same-length ms cs same
same-length (message.Forward to f ∷ ms) cs same =
    let some : 0 < times to.0 cs = omega (arith, same to.0, ap one_if (eqb-self to.0)) in
    let rest : forward_count ms ≡ length (drop-one to.0 cs) = same-length ms (drop-one to.0 cs) (λ k. omega (arith, same k, times-drop_one to.0 cs some k)) in
    omega (arith, rest, length-drop_one to.0 cs some)

pub listed-count : (from : CacheId) (value : Option ℕ) (actions : List DirectoryAction) (home : Home)
    → forward_count (home_messages (Some from) value actions home) ≡ length (links_of from actions home)
listed-count from value actions home =
    same-length (home_messages (Some from) value actions home) (links_of from actions home) (λ k. listed-all k from value actions home)
