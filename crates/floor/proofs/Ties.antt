-- The tokens' rule, kept by each step.
use Rattle.std.proofs.Common.{◌≡◌, ◌≢◌, ◌⊎◌, inl, inr, ℕ, zero, suc, ◌+◌, cond, eqb, List, []}
use Rattle.std.proofs.Common.{◌∷◌, ◌++◌, length, slice_set, Bool, true, false, refl, sym, ap, ◌∙◌, arith, length-append}
use Rattle.std.proofs.lemmas.Bool.Decides.{nat_tests}
use mathlib.Core.Option.{Option, some}
use lib.ListN.{get_elem?}
use Rattle.atomic_table.specs.Table.{Me, step, keeps, Allows, Splits, Joins, opening}
use Rattle.record_lines.specs.declared.entry.Entry.{Entry}
use Rattle.floor.specs.declared.tokens.TokenView.{TokenView}
use Rattle.floor.specs.Histories.{history, owned_from}
use Rattle.floor.specs.inner.Tokens.{keeper, sitting, idle, FitsRule, Fitting, seated, stood, risen, dealt, newcomer, grown, Adds, Compares}

set_get : (views : List TokenView) (id by : ℕ) (w v : TokenView) → get_elem? (slice_set views id w) by ≡ some v →
    ((by ≡ id) × (v ≡ w)) ⊎ ((by ≢ id) × (get_elem? views by ≡ some v))
set_get [] id by w v e = absurd (cc e)
set_get (u ∷ us) zero zero w v e = inl (refl, cc e)
set_get (u ∷ us) zero (suc by) w v e = inr ((λ p. absurd (omega (arith, p))), e)
set_get (u ∷ us) (suc id) zero w v e = inr ((λ p. absurd (omega (arith, p))), e)
set_get (u ∷ us) (suc id) (suc by) w v e = elim (set_get us id by w v e) [
  | inl a ↦ inl (ap suc a.0, a.1)
  | inr a ↦ inr ((λ p. a.0 (omega (arith, p))), a.1)
]

set_same : (views : List TokenView) (id by : ℕ) (w v : TokenView) → get_elem? views id ≡ some w → get_elem? (slice_set views id w) by ≡ some v →
    get_elem? views by ≡ some v
set_same views id by w v at e = elim (set_get views id by w v e) [
  | inl q ↦ rw (q.0, q.1) at
  | inr q ↦ q.1
]

snoc_get : (views : List TokenView) (w v : TokenView) (by : ℕ) → get_elem? (views ++ w ∷ []) by ≡ some v →
    (get_elem? views by ≡ some v) ⊎ ((by ≡ length views) × (v ≡ w))
snoc_get [] w v zero e = inr (refl, cc e)
snoc_get [] w v (suc by) e = absurd (cc e)
snoc_get (u ∷ us) w v zero e = inl e
snoc_get (u ∷ us) w v (suc by) e = elim (snoc_get us w v by e) [
  | inl a ↦ inl a
  | inr a ↦ inr (ap suc a.0, a.1)
]

-- one number's place changes
abbrev moved : (ℕ → ℕ) → ℕ → ℕ → ℕ → ℕ
moved place k id n = cond (eqb n k) id (place n)

moved_same : (place : ℕ → ℕ) (k id : ℕ) → moved place k id k ≡ id
moved_same place k id = grind (arith, nat_tests)

moved_other : (place : ℕ → ℕ) (k id n : ℕ) → n ≢ k → moved place k id n ≡ place n
moved_other place k id n ne = grind (arith, nat_tests)

cond_no : {X : Type 0} (a b : ℕ) (x y : X) → a ≢ b → cond (eqb a b) x y ≡ y
cond_no a b x y ne = grind (arith, nat_tests)

cond_yes : {X : Type 0} (a : ℕ) (x y : X) → cond (eqb a a) x y ≡ x
cond_yes a x y = grind (arith, nat_tests)

-- an entry of another seat
owned_other : (seat k : ℕ) (es : List Entry) (os : List ℕ) (e : Entry) (o : ℕ) → length os ≡ length es → o ≢ seat →
    owned_from seat k (es ++ e ∷ []) (os ++ o ∷ []) ≡ owned_from seat k es os
owned_other seat k [] [] e o even ne = cond_no o seat _ _ ne
owned_other seat k [] (p ∷ os) e o even ne = absurd (omega (arith, even))
owned_other seat k (x ∷ es) [] e o even ne = absurd (omega (arith, even))
owned_other seat k (x ∷ es) (p ∷ os) e o even ne =
    let rest = owned_other seat (k + 1) es os e o (omega (arith, even)) ne in ap (λ l. cond (eqb p seat) ((k, x) ∷ l) l) rest

-- an entry of its own
owned_own : (seat k : ℕ) (es : List Entry) (os : List ℕ) (e : Entry) → length os ≡ length es →
    owned_from seat k (es ++ e ∷ []) (os ++ seat ∷ []) ≡ owned_from seat k es os ++ (k + length es, e) ∷ []
owned_own seat k [] [] e even = cond_yes seat _ _ ∙ ap (λ n. (n, e) ∷ []) (omega arith)
owned_own seat k [] (p ∷ os) e even = absurd (omega (arith, even))
owned_own seat k (x ∷ es) [] e even = absurd (omega (arith, even))
owned_own seat k (x ∷ es) (p ∷ os) e even =
    let rest = owned_own seat (k + 1) es os e (omega (arith, even)) in
    let n : (k + 1) + length es ≡ k + length (x ∷ es) = omega arith in by_case (eqb p seat) (rest ∙ ap (λ m. owned_from seat (k + 1) es os ++ (m, e) ∷ []) n)
  where
    by_case : (b : Bool) → owned_from seat (k + 1) (es ++ e ∷ []) (os ++ seat ∷ []) ≡ owned_from seat (k + 1) es os ++ (k + length (x ∷ es), e) ∷ []
        → cond b ((k, x) ∷ owned_from seat (k + 1) (es ++ e ∷ []) (os ++ seat ∷ [])) (owned_from seat (k + 1) (es ++ e ∷ []) (os ++ seat ∷ []))
        ≡ cond b ((k, x) ∷ owned_from seat (k + 1) es os) (owned_from seat (k + 1) es os) ++ (k + length (x ∷ es), e) ∷ []
    by_case true r = ap (λ l. (k, x) ∷ l) r
    by_case false r = r

first_view : (id : ℕ) (w v : TokenView) → get_elem? (w ∷ []) id ≡ some v → (id ≡ 0) × (v ≡ w)
first_view zero w v e = (refl, cc e)
first_view (suc id) w v e = absurd (cc e)

pub opens : Fitting (opening (0 ∷ []) [] (keeper [] [] 0))
opens = record {
  by = 0;
  place = λ _. 0;
  es = [];
  os = [];
  n = 0;
  even = refl;
  fits = λ id v e. let at = first_view id (keeper [] [] 0) v e in (
    (λ k. (at.0, ap (λ x. x.entries) at.1, ap (λ x. x.owners) at.1, ap (λ x. x.next) at.1)),
    (λ k. absurd (cc (sym k ∙ ap (λ x. x.sits) at.1))),
  );
}

pub sits : (id other : ℕ) (v w : TokenView) → w.sits ≡ true → Joins Fitting id v other w (seated v w) idle
sits id other v w sit s h at apart got =
    let told : FitsRule h.by h.place h.es h.os h.n other w = elim (set_get s.views id other (seated v w) w got) [
      | inl q ↦ absurd (apart q.0)
      | inr q ↦ h.fits other w q.1
    ] in
    let own = h.fits id v at in
    let mine = told.1 sit in record {
      by = h.by;
      place = moved h.place w.number id;
      es = h.es;
      os = h.os;
      n = h.n;
      even = h.even;
      fits = λ b x e. elim (set_get (slice_set s.views id (seated v w)) other b idle x e) [
        | inl q ↦ ((λ k. absurd (cc (sym k ∙ ap (λ y. y.keeps) q.1))), (λ k. absurd (cc (sym k ∙ ap (λ y. y.sits) q.1))))
        | inr q ↦ elim (set_get s.views id b (seated v w) x q.1) [
          | inl r ↦ rw (r.0, r.1) (own.0, (λ k. (sym (moved_same h.place w.number id), mine.1, mine.2)))
          | inr r ↦ (
            (h.fits b x r.1).0,
            (λ k.
                let f = (h.fits b x r.1).1 k in
                let ne : x.number ≢ w.number = λ eq. q.0 (f.0 ∙ (ap h.place eq ∙ sym mine.0)) in
                (f.0 ∙ sym (moved_other h.place w.number id x.number ne), f.1, f.2)),
          )
        ]
      ];
    }

pub stands : (id : ℕ) (v : TokenView) → v.keeps ≡ true → v.sits ≡ true → Splits Fitting id v (stood v) (risen v)
stands id v keep sit s h at =
    let own = h.fits id v at in
    let mine = own.1 sit in
    let here = length (slice_set s.views id (stood v)) in record {
      by = h.by;
      place = moved h.place v.number here;
      es = h.es;
      os = h.os;
      n = h.n;
      even = h.even;
      fits = λ b x e. elim (snoc_get (slice_set s.views id (stood v)) (risen v) x b e) [
        | inl q ↦ elim (set_get s.views id b (stood v) x q) [
          | inl r ↦ rw (r.0, r.1) ((λ k. own.0 keep), (λ k. absurd (cc k)))
          | inr r ↦ (
            (h.fits b x r.1).0,
            (λ k.
                let f = (h.fits b x r.1).1 k in
                let ne : x.number ≢ v.number = λ eq. r.0 (f.0 ∙ (ap h.place eq ∙ sym mine.0)) in
                (f.0 ∙ sym (moved_other h.place v.number here x.number ne), f.1, f.2)),
          )
        ]
        | inr q ↦ rw (q.0, q.1) ((λ k. absurd (cc k)), (λ k. (sym (moved_same h.place v.number here), mine.1, mine.2)))
      ];
    }

pub deals : (id : ℕ) (v : TokenView) → v.keeps ≡ true → v.entries ≡ [] → Splits Fitting id v (dealt v) (newcomer v)
deals id v keep none_yet s h at =
    let own = (h.fits id v at).0 keep in
    let empty : h.es ≡ [] = sym own.1 ∙ none_yet in
    let here = length (slice_set s.views id (dealt v)) in record {
      by = h.by;
      place = moved h.place v.next here;
      es = h.es;
      os = h.os;
      n = h.n + 1;
      even = h.even;
      fits = λ b x e. elim (snoc_get (slice_set s.views id (dealt v)) (newcomer v) x b e) [
        | inl q ↦ elim (set_get s.views id b (dealt v) x q) [
          | inl r ↦ rw (r.0, r.1) ((λ k. (own.0, own.1, own.2, ap (λ m. m + 1) own.3)), (λ k. absurd (cc k)))
          | inr r ↦ (
            (λ k. absurd (r.0 (((h.fits b x r.1).0 k).0 ∙ sym own.0))),
            (λ k.
                let f = (h.fits b x r.1).1 k in
                let ne : x.number ≢ v.next = λ eq. absurd (omega (arith, f.1, eq, own.3)) in
                (f.0 ∙ sym (moved_other h.place v.next here x.number ne), omega (arith, f.1), f.2)),
          )
        ]
        | inr q ↦ rw (q.0, q.1) (
          (λ k. absurd (cc k)),
          (λ k. (sym (moved_same h.place v.next here), omega (arith, own.3), ap (λ (l : List Entry). history v.next l h.os) (sym empty))),
        )
      ];
    }

pub spares : (id : ℕ) (v : TokenView) → Splits Fitting id v v idle
spares id v s h at = record {
  by = h.by;
  place = h.place;
  es = h.es;
  os = h.os;
  n = h.n;
  even = h.even;
  fits = λ b x e. elim (snoc_get (slice_set s.views id v) idle x b e) [
    | inl q ↦ h.fits b x (set_same s.views id b v x at q)
    | inr q ↦ ((λ k. absurd (cc (sym k ∙ ap (λ y. y.keeps) q.1))), (λ k. absurd (cc (sym k ∙ ap (λ y. y.sits) q.1))))
  ];
}

pub adds : (slots id : ℕ) (me : Me Entry TokenView) (a b : ℕ) (f : ℕ → ℕ) (e : Entry) → me.0.keeps ≡ true → me.0.sits ≡ true
    → Allows Fitting slots id me 0 f (Adds (step slots 0 a b (some e)) me)
adds slots id me a b f e keep sit s h len at fits =
    let v = me.0 in
    let own = h.fits id v at in
    let kept = own.0 keep in
    let mine = own.1 sit in
    let w : TokenView = grown v e in (
      w,
      keeps,
      tt,
      record {
        by = h.by;
        place = h.place;
        es = h.es ++ e ∷ [];
        os = h.os ++ v.number ∷ [];
        n = h.n;
        even = omega (arith, h.even, length-append h.es (e ∷ []), length-append h.os (v.number ∷ []));
        fits = λ b x got. elim (set_get s.views id b w x got) [
          | inl q ↦ rw (q.0, q.1) (
            (λ k. (kept.0, ap (λ l. l ++ e ∷ []) kept.1, ap (λ l. l ++ v.number ∷ []) kept.2, kept.3)),
            (λ k. (
              mine.0,
              mine.1,
              ap (λ l. l ++ (length v.entries, e) ∷ []) mine.2
                  ∙ (ap (λ n. history v.number h.es h.os ++ (n, e) ∷ []) (ap (λ (l : List Entry). length l) kept.1 ∙ (omega arith))
                  ∙ sym (owned_own v.number 0 h.es h.os e h.even)),
            )),
          )
          | inr q ↦ (
            (λ k. absurd (q.0 (((h.fits b x q.1).0 k).0 ∙ sym kept.0))),
            (λ k.
                let g = (h.fits b x q.1).1 k in
                let ne : v.number ≢ x.number = λ eq. q.0 (g.0 ∙ (ap h.place (sym eq) ∙ sym mine.0)) in
                (g.0, g.1, g.2 ∙ sym (owned_other x.number 0 h.es h.os e v.number h.even ne))),
          )
        ];
      },
      ((λ x same. ap (λ y. grown v y) (cc same)), refl, mine.2 ∙ cc (sym kept.1, sym kept.2)),
    )

pub compares : (slots id : ℕ) (me : Me Entry TokenView) (a b : ℕ) (o : Option Entry) → me.0.keeps ≡ true → me.0.sits ≡ true →
    Allows Fitting slots id me 0 (λ n. n) (Compares (step slots 0 a b o) me)
compares slots id me a b o keep sit s h len at fits =
    let own = h.fits id me.0 at in
    let kept = own.0 keep in (
      me.0,
      keeps,
      tt,
      record { by = h.by; place = h.place; es = h.es; os = h.os; n = h.n; even = h.even; fits = λ b x got. h.fits b x (set_same s.views id b me.0 x at got) },
      (refl, (own.1 sit).2 ∙ cc (sym kept.1, sym kept.2)),
    )

-- what is left behind where the keeper took a seat, added an entry, and let the seat go
pub added : (h t u a b x hall seat : Me Entry TokenView) (e : Entry) → h ≡ (keeper h.0.entries h.0.owners h.0.next, []) → u ≡ t → a ≡ (h.0, h.1) →
    b ≡ (seated a.0 u.0, a.1) →
    x.0 ≡ grown b.0 e → x.1 ≡ b.1 → hall ≡ (stood x.0, x.1) → seat ≡ (risen x.0, []) →
    (hall ≡ (keeper (h.0.entries ++ e ∷ []) (h.0.owners ++ t.0.number ∷ []) h.0.next, []))
    × (seat ≡ (sitting t.0.number (t.0.made ++ (length h.0.entries, e) ∷ []), []))
added h t u a b x hall seat e keep taken spared joined grew kept stood' risen' =
    let same : x.0 ≡ grown (seated h.0 t.0) e =
    grew ∙ ap (λ (m : Me Entry TokenView). grown m.0 e)
    (joined ∙ (ap (λ (m : Me Entry TokenView). let n : Me Entry TokenView = (seated m.0 u.0, m.1) in n) spared
    ∙ ap (λ (m : Me Entry TokenView). let n : Me Entry TokenView = (seated h.0 m.0, h.1) in n) taken)) in
    let lent : x.1 ≡ [] =
    kept ∙ (ap (λ (m : Me Entry TokenView). m.1) joined ∙ (ap (λ (m : Me Entry TokenView). m.1) spared ∙ ap (λ (m : Me Entry TokenView). m.1) keep)) in (
      stood' ∙ (ap (λ v. (stood v, x.1)) same ∙ ap (λ l. (stood (grown (seated h.0 t.0) e), l)) lent),
      risen' ∙ ap (λ v. (risen v, [])) same,
    )
