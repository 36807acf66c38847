-- Entries as they are told: with their owners.
use Rattle.std.proofs.Common.{◌≡◌, ◌≢◌, ◌≤◌, ◌<◌, ℕ, zero, suc, List, [], ◌∷◌, ◌++◌, Option, Some, None, length, map, get_or, refl, ap, sym, subst, ◌∙◌, arith}
use Rattle.std.specs.Prelude.{slice_get}
use Rattle.std.proofs.Common.{append-nil}
use Rattle.std.specs.List.{All, AllByRecursion}
use Rattle.std.proofs.lemmas.List.{length_push}
use Rattle.std.proofs.lemmas.List.Elements.{All-from_recursion, All-push, recursion_from_All}
use Rattle.record_lines.specs.declared.entry.Entry.{Entry}
use Rattle.record_lines.specs.declared.told.Told.{Told}
use Rattle.record_lines.specs.Grammar.{IsOwner, FitsEntry, FitsTold}
use Rattle.record.specs.Text.{told}
use Rattle.record.specs.View.{owner_list, AreOwners}

abbrev pub tell : Option ℕ → Entry → Told
tell owner entry = record { owner = owner; entry = entry }

-- ---- one more

pub told-none_more : (es : List Entry) (e : Entry) → told [] (es ++ e ∷ []) ≡ told [] es ++ tell None e ∷ []
told-none_more [] e = refl
told-none_more (x ∷ es) e = ap (λ l. tell None x ∷ l) (told-none_more es e)

pub told-some_more : (ks : List ℕ) (es : List Entry) (k : ℕ) (e : Entry) → length ks ≡ length es →
    told (ks ++ k ∷ []) (es ++ e ∷ []) ≡ told ks es ++ tell (Some k) e ∷ []
told-some_more [] [] k e n = refl
told-some_more [] (x ∷ es) k e n = absurd (omega (arith, n))
told-some_more (y ∷ ks) [] k e n = absurd (omega (arith, n))
told-some_more (y ∷ ks) (x ∷ es) k e n = ap (λ l. tell (Some y) x ∷ l) (told-some_more ks es k e (omega (arith, n)))

-- whosever it is
pub told-more : (seats : ℕ) (ks : List ℕ) (es : List Entry) (o : Option ℕ) (e : Entry) → AreOwners seats ks es → IsOwner seats o →
    told (ks ++ owner_list o) (es ++ e ∷ []) ≡ told ks es ++ tell o e ∷ []
told-more seats ks es None e h is =
    let none : ks ≡ [] = h.none is in
    ap (λ l. told (l ++ []) (es ++ e ∷ [])) none ∙ told-none_more es e ∙ ap (λ l. told l es ++ tell None e ∷ []) (sym none)
told-more seats ks es (Some k) e h is = told-some_more ks es k e (h.each (λ z. absurd (omega (arith, is, z))))

pub told-length : (ks : List ℕ) (es : List Entry) → length (told ks es) ≡ length es
told-length ks [] = refl
told-length [] (e ∷ es) = ap suc (told-length [] es)
told-length (k ∷ ks) (e ∷ es) = ap suc (told-length ks es)

pub told-at : (ks : List ℕ) (es : List Entry) (i : ℕ) (d : Told) (x : Entry) → i < length es →
    get_or (told ks es) i d ≡ tell (slice_get ks i) (get_or es i x)
told-at ks [] i d x low = absurd (omega (arith, low))
told-at [] (e ∷ es) zero d x low = refl
told-at [] (e ∷ es) (suc i) d x low = told-at [] es i d x (omega (arith, low))
told-at (k ∷ ks) (e ∷ es) zero d x low = refl
told-at (k ∷ ks) (e ∷ es) (suc i) d x low = told-at ks es i d x (omega (arith, low))

-- ---- all of them fit

none-fit : (seats : ℕ) (es : List Entry) → seats ≡ 0 → AllByRecursion FitsEntry es → AllByRecursion (FitsTold seats) (told [] es)
none-fit seats [] is h = tt
none-fit seats (e ∷ es) is h = ((is, h.0), none-fit seats es is h.1)

some-fit : (seats : ℕ) (ks : List ℕ) (es : List Entry) → length ks ≡ length es → AllByRecursion (λ k. k < seats) ks → AllByRecursion FitsEntry es →
    AllByRecursion (FitsTold seats) (told ks es)
some-fit seats ks [] n g h = tt
some-fit seats [] (e ∷ es) n g h = absurd (omega (arith, n))
some-fit seats (k ∷ ks) (e ∷ es) n g h = ((g.0, h.0), some-fit seats ks es (omega (arith, n)) g.1 h.1)

pub told-fit : (seats : ℕ) (ks : List ℕ) (es : List Entry) → AreOwners seats ks es → AllByRecursion FitsEntry es → AllByRecursion (FitsTold seats) (told ks es)
told-fit zero ks es h fit = subst (λ l. AllByRecursion (FitsTold 0) (told l es)) (sym (h.none refl)) (none-fit 0 es refl fit)
told-fit (suc n) ks es h fit =
    some-fit (suc n) ks es (h.each (λ e. absurd (omega (arith, e)))) (recursion_from_All (λ k. k < suc n) ks h.within) fit

-- ---- and back

abbrev pub owners_of : List Told → List ℕ
owners_of [] = []
owners_of (t ∷ ts) = owner_list t.owner ++ owners_of ts

abbrev pub entries_of : List Told → List Entry
entries_of ts = map (λ t. t.entry) ts

none-one : (seats : ℕ) (o : Option ℕ) (ks : List ℕ) → seats ≡ 0 → IsOwner seats o → ks ≡ [] → owner_list o ++ ks ≡ []
none-one seats None ks is h none = none
none-one seats (Some k) ks is h none = absurd (omega (arith, is, h))

none-owners : (seats : ℕ) (ts : List Told) → seats ≡ 0 → AllByRecursion (FitsTold seats) ts → owners_of ts ≡ []
none-owners seats [] is h = refl
none-owners seats (t ∷ ts) is h = none-one seats t.owner (owners_of ts) is h.0.0 (none-owners seats ts is h.1)

told-one : (seats : ℕ) (o : Option ℕ) (e : Entry) (ts : List Told) → IsOwner seats o → AllByRecursion (FitsTold seats) ts →
    told (owners_of ts) (entries_of ts) ≡ ts → told (owner_list o ++ owners_of ts) (e ∷ entries_of ts) ≡ tell o e ∷ ts
told-one seats None e ts is h more =
    let none : owners_of ts ≡ [] = none-owners seats ts is h in
    ap (λ ks. told ks (e ∷ entries_of ts)) none ∙ ap (λ l. tell None e ∷ l) (ap (λ ks. told ks (entries_of ts)) (sym none) ∙ more)
told-one seats (Some k) e ts is h more = ap (λ l. tell (Some k) e ∷ l) more

pub told-of : (seats : ℕ) (ts : List Told) → AllByRecursion (FitsTold seats) ts → told (owners_of ts) (entries_of ts) ≡ ts
told-of seats [] h = refl
told-of seats (t ∷ ts) h = told-one seats t.owner t.entry ts h.0.0 h.1 (told-of seats ts h.1)

each-one : (seats : ℕ) (o : Option ℕ) (ks : List ℕ) (n : ℕ) → seats ≢ 0 → IsOwner seats o → length ks ≡ n → length (owner_list o ++ ks) ≡ suc n
each-one seats None ks n other is h = absurd (other is)
each-one seats (Some k) ks n other is h = ap suc h

each-owners : (seats : ℕ) (ts : List Told) → seats ≢ 0 → AllByRecursion (FitsTold seats) ts → length (owners_of ts) ≡ length (entries_of ts)
each-owners seats [] other h = refl
each-owners seats (t ∷ ts) other h = each-one seats t.owner (owners_of ts) (length (entries_of ts)) other h.0.0 (each-owners seats ts other h.1)

within-one : (seats : ℕ) (o : Option ℕ) (ks : List ℕ) → IsOwner seats o → AllByRecursion (λ k. k < seats) ks → AllByRecursion (λ k. k < seats)
    (owner_list o ++ ks)
within-one seats None ks is h = h
within-one seats (Some k) ks is h = (is, h)

within-owners : (seats : ℕ) (ts : List Told) → AllByRecursion (FitsTold seats) ts → AllByRecursion (λ k. k < seats) (owners_of ts)
within-owners seats [] h = tt
within-owners seats (t ∷ ts) h = within-one seats t.owner (owners_of ts) h.0.0 (within-owners seats ts h.1)

pub are-owners : (seats : ℕ) (ts : List Told) → seats ≤ 64 → AllByRecursion (FitsTold seats) ts → AreOwners seats (owners_of ts) (entries_of ts)
are-owners seats ts few h = record {
  few = few;
  none = λ is. none-owners seats ts is h;
  each = λ other. each-owners seats ts other h;
  within = All-from_recursion (λ k. k < seats) (owners_of ts) (within-owners seats ts h);
}

pub entries-fit : (seats : ℕ) (ts : List Told) → AllByRecursion (FitsTold seats) ts → AllByRecursion FitsEntry (entries_of ts)
entries-fit seats [] h = tt
entries-fit seats (t ∷ ts) h = (h.0.1, entries-fit seats ts h.1)

-- ---- entries that are told alike are the same

pub entries-told : (ks : List ℕ) (es : List Entry) → entries_of (told ks es) ≡ es
entries-told ks [] = refl
entries-told [] (e ∷ es) = ap (λ l. e ∷ l) (entries-told [] es)
entries-told (k ∷ ks) (e ∷ es) = ap (λ l. e ∷ l) (entries-told ks es)

owners-told_in : (ks : List ℕ) (es : List Entry) → length ks ≤ length es → owners_of (told ks es) ≡ ks
owners-told_in [] [] n = refl
owners-told_in (k ∷ ks) [] n = absurd (omega (arith, n))
owners-told_in [] (e ∷ es) n = owners-told_in [] es (omega arith)
owners-told_in (k ∷ ks) (e ∷ es) n = ap (λ l. k ∷ l) (owners-told_in ks es (omega (arith, n)))

few-owners : (seats : ℕ) (ks : List ℕ) (es : List Entry) → AreOwners seats ks es → length ks ≤ length es
few-owners zero ks es h = omega (arith, ap length (h.none refl))
few-owners (suc n) ks es h = omega (arith, h.each (λ e. absurd (omega (arith, e))))

pub owners-told : (seats : ℕ) (ks : List ℕ) (es : List Entry) → AreOwners seats ks es → owners_of (told ks es) ≡ ks
owners-told seats ks es h = owners-told_in ks es (few-owners seats ks es h)

-- one entry more keeps its owner
pub more-owners : (seats : ℕ) (ks : List ℕ) (es : List Entry) (o : Option ℕ) (e : Entry) → AreOwners seats ks es → IsOwner seats o →
    AreOwners seats (ks ++ owner_list o) (es ++ e ∷ [])
more-owners seats ks es o e h is = by-owner o is
  where
    by-owner : (o : Option ℕ) → IsOwner seats o → AreOwners seats (ks ++ owner_list o) (es ++ e ∷ [])
    by-owner None is = record {
      few = h.few;
      none = λ z. append-nil ks ∙ h.none z;
      each = λ other. absurd (other is);
      within = subst (All (λ k. k < seats)) (sym (append-nil ks)) h.within;
    }
    by-owner (Some k) is = record {
      few = h.few;
      none = λ z. absurd (omega (arith, is, z));
      each = λ other. length_push ks k ∙ omega (arith, h.each other, length_push es e);
      within = All-push (λ k. k < seats) ks k h.within is;
    }
