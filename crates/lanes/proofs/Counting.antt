-- What marking and counting lanes again makes of them.
use Rattle.std.proofs.Common.{◌≡◌, ◌≢◌, ℕ, zero, suc, ◌+◌, ◌<◌, ◌≤◌, ◌^◌, ◌⊎◌, ◌==◌, inl, inr, Bool, true, false}
use Rattle.std.proofs.Common.{not, ◌&&◌, if◌then◌else◌, List, [], ◌∷◌, ◌++◌, length, map}
use Rattle.std.proofs.Common.{Option, Some, IfSome, get_or, set, slice_get, refl, sym, ap, ◌∙◌, subst, arith}
use Rattle.std.specs.List.{Contains}
use Rattle.std.proofs.lemmas.List.{length-set, get_or_default, get_or_past, get_or-set_same, get_or-set_other, set-get_or}
use Rattle.std.proofs.lemmas.Bool.{cases_eq, cases_lt}
use Rattle.std.proofs.lemmas.Bool.Decides.{nat_tests}
use Rattle.base.specs.declared.ids.BlockId.{BlockId}
use Rattle.base.specs.declared.ids.CacheId.{CacheId}
use Rattle.base.specs.declared.ids.Place.{Place}
use Rattle.base.specs.declared.ids.Place.TheVariants.{Cache}
use Rattle.base.specs.declared.step.CoreAsk.{CoreAsk}
use Rattle.tables.specs.Tables.{Tables}
use Rattle.blocks.specs.declared.block.asking.HeldAsks.{HeldAsks}
use Rattle.machine.specs.Coherence.{line_at}
use Rattle.machine.specs.Machine.{State}
use Rattle.cores.specs.Cores.{Core, is_free}
use Rattle.scenario.specs.Tree.{Tree, Seq, Nil}
use Rattle.schedule.specs.Choices.{can_be_put, offers_from}
use Rattle.lanes.specs.Lanes.{AreAsFree, AreReady, Laned, Source, listed_at, offers_at, puttable, source_at}
use Rattle.lanes.specs.inner.Kept.{AreAsOpened, AreListed, IsLevel, IsListed, IsListedAs, lanes_of, tree_of_lane}
use Rattle.schedule.specs.Listed.{IsMarked, Listed, is_unheld, nothing_listed}
use Rattle.schedule.specs.Marks.{AreHeldAt, all_marked, is_at, mark_by, marked_by, marks_by, offers_by}
use Rattle.lanes.specs.inner.Changes.{Agree, AgreeBut, AreCountedAt, AreMarked, ChangesCounts, IsCountedAt, IsCountedIf, IsMarkedIn, KeepsOtherLanes}
use Rattle.lanes.specs.inner.Changes.{ChangesMarks}
use Rattle.lanes.specs.inner.Changes.{WereReady, count_by, counted_at, marked_in}
use Rattle.schedule.specs.declared.choosing.Choice.TheVariants.{Offer}
use Rattle.schedule.proofs.Marking.{by-held, by-marks, held-here, marks_at}
use Rattle.lanes.proofs.Touched.{asked, held-by-line}

-- ---- what can be put of a core that two moments agree on

-- where the line is the same, so is the mark
same-unheld : (tables : Tables) (before now : State) (ask : CoreAsk) → before.broken ≡ false → now.broken ≡ false →
    line_at now ask.core.0 ask.block.0 ≡ line_at before ask.core.0 ask.block.0 → is_unheld tables now ask ≡ is_unheld tables before ask
same-unheld tables before now ask sb sn line =
    ap not (held-by-line tables now ask sn ∙ ap (asked tables ask) line ∙ sym (held-by-line tables before ask sb))

same-put : (tables : Tables) (before now : State) (cb cn : List Core) (ask : CoreAsk) → before.broken ≡ false → now.broken ≡ false →
    Agree ask.core.0 before now cb cn → can_be_put tables now cn ask ≡ can_be_put tables before cb ask
same-put tables before now cb cn ask sb sn a =
    ap (λ f. f && is_unheld tables now ask) a.free
    ∙ ap (λ h. is_free cb ask.core.0 && h) (same-unheld tables before now ask sb sn (a.lines ask.block.0))

same-count : (tables : Tables) (before now : State) (cb cn : List Core) (i : ℕ) (asks : List CoreAsk) → before.broken ≡ false → now.broken ≡ false →
    ((at : ℕ) (ask : CoreAsk) → slice_get asks at ≡ Some ask → Agree ask.core.0 before now cb cn) →
    length (offers_from tables before cb i asks) ≡ length (offers_from tables now cn i asks)
same-count tables before now cb cn i [] sb sn a = refl
same-count tables before now cb cn i (ask ∷ asks) sb sn a =
    let r = same-count tables before now cb cn (i + 1) asks sb sn (λ at d e. a (suc at) d e) in
    let e = same-put tables before now cb cn ask sb sn (a zero ask refl) in
    ap (λ b. length ((if b then Offer i ask ∷ [] else []) ++ offers_from tables before cb (i + 1) asks)) (sym e)
    ∙ (elim (can_be_put tables now cn ask) as
    (λ b. length ((if b then Offer i ask ∷ [] else []) ++ offers_from tables before cb (i + 1) asks)
    ≡ length ((if b then Offer i ask ∷ [] else []) ++ offers_from tables now cn (i + 1) asks)) [
      | true ↦ ap suc r
      | false ↦ r
    ])

same-cache : (cache core : CacheId) → Some (Cache cache) ≡ Some (Cache core) → cache ≡ core
same-cache cache core e = cc e

-- ---- marks made anew for a core and a block

-- asks of another core or about another block have lines that stayed
StaysApart : (before now : State) (core : CacheId) (block : BlockId) (asks : List CoreAsk) → Type 0
StaysApart before now core block asks = (at : ℕ) (ask : CoreAsk) → slice_get asks at ≡ Some ask → is_at core block ask ≡ false →
    line_at now ask.core.0 ask.block.0 ≡ line_at before ask.core.0 ask.block.0

anew-before : (tables : Tables) (before now : State) (core : CacheId) (block : BlockId) (asks : List CoreAsk) → before.broken ≡ false → now.broken ≡ false →
    StaysApart before now core block asks → marks_at tables now core block asks (map (is_unheld tables before) asks) ≡ map (is_unheld tables now) asks
unfolding StaysApart
anew-before tables before now core block [] sb sn stay = refl
anew-before tables before now core block (ask ∷ asks) sb sn stay =
    ap (λ ms. (if is_at core block ask then is_unheld tables now ask else is_unheld tables before ask) ∷ ms)
    (anew-before tables before now core block asks sb sn (λ at d e. stay (suc at) d e))
    ∙ ap (λ m. m ∷ map (is_unheld tables now) asks) (by (is_at core block ask) refl)
  where
    by : (b : Bool) → is_at core block ask ≡ b → (if b then is_unheld tables now ask else is_unheld tables before ask) ≡ is_unheld tables now ask
    by true e = refl
    by false e = sym (same-unheld tables before now ask sb sn (stay zero ask refl e))

anew-now : (tables : Tables) (now : State) (core : CacheId) (block : BlockId) (asks : List CoreAsk) →
    marks_at tables now core block asks (map (is_unheld tables now) asks) ≡ map (is_unheld tables now) asks
anew-now tables now core block [] = refl
anew-now tables now core block (ask ∷ asks) =
    ap (λ ms. (if is_at core block ask then is_unheld tables now ask else is_unheld tables now ask) ∷ ms) (anew-now tables now core block asks)
    ∙ ap (λ m. m ∷ map (is_unheld tables now) asks) (by (is_at core block ask))
  where
    by : (b : Bool) → (if b then is_unheld tables now ask else is_unheld tables now ask) ≡ is_unheld tables now ask
    by true = refl
    by false = refl

-- making them anew twice is making them anew
anew-twice : (held : HeldAsks) (core : CacheId) (block : BlockId) (asks : List CoreAsk) (marks : List Bool) →
    marks_by held core block asks (marks_by held core block asks marks) ≡ marks_by held core block asks marks
anew-twice held core block [] marks = refl
anew-twice held core block (ask ∷ asks) [] = refl
anew-twice held core block (ask ∷ asks) (m ∷ marks) =
    ap (λ ms. (if is_at core block ask then mark_by held ask else (if is_at core block ask then mark_by held ask else m)) ∷ ms)
    (anew-twice held core block asks marks)
    ∙ ap (λ x. x ∷ marks_by held core block asks marks) (by (is_at core block ask))
  where
    by : (b : Bool) → (if b then mark_by held ask else (if b then mark_by held ask else m)) ≡ (if b then mark_by held ask else m)
    by true = refl
    by false = refl

-- where all lines stayed, the marks did
stayed : (tables : Tables) (before now : State) (asks : List CoreAsk) → before.broken ≡ false → now.broken ≡ false →
    ((at : ℕ) (ask : CoreAsk) → slice_get asks at ≡ Some ask → line_at now ask.core.0 ask.block.0 ≡ line_at before ask.core.0 ask.block.0) →
    map (is_unheld tables before) asks ≡ map (is_unheld tables now) asks
stayed tables before now [] sb sn stay = refl
stayed tables before now (ask ∷ asks) sb sn stay =
    ap (λ m. m ∷ map (is_unheld tables before) asks) (sym (same-unheld tables before now ask sb sn (stay zero ask refl)))
    ∙ ap (λ ms. is_unheld tables now ask ∷ ms) (stayed tables before now asks sb sn (λ at d e. stay (suc at) d e))

-- an ask of this core about this block is held as before
same-held : (tables : Tables) (before now : State) (core : CacheId) (block : BlockId) (held : HeldAsks) (asks : List CoreAsk) → before.broken ≡ false →
    now.broken ≡ false → AreHeldAt tables before core block held → AreHeldAt tables now core block held → StaysApart before now core block asks →
    map (is_unheld tables before) asks ≡ map (is_unheld tables now) asks
unfolding StaysApart
same-held tables before now core block held [] sb sn was is stay = refl
same-held tables before now core block held (ask ∷ asks) sb sn was is stay =
    ap (λ m. m ∷ map (is_unheld tables before) asks) (by (is_at core block ask) refl)
    ∙ ap (λ ms. is_unheld tables now ask ∷ ms) (same-held tables before now core block held asks sb sn was is (λ at d e. stay (suc at) d e))
  where
    by : (b : Bool) → is_at core block ask ≡ b → is_unheld tables before ask ≡ is_unheld tables now ask
    by true e = sym (held-here tables before core block held ask was e) ∙ held-here tables now core block held ask is e
    by false e = sym (same-unheld tables before now ask sb sn (stay zero ask refl e))

other-core : (core other : CacheId) → other.0 ≢ core.0 → Some (Cache core) ≢ Some (Cache other)
other-core core other ne e = ne (ap (λ (c : CacheId). c.0) (sym (same-cache core other e)))

is-another : (core : CacheId) (block : BlockId) (ask : CoreAsk) → is_at core block ask ≡ false → (ask.core.0 ≢ core.0) ⊎ (ask.block.0 ≢ block.0)
is-another core block ask e = elim (cases_eq ask.core.0 core.0) [
  | inr ne ↦ inl ne
  | inl same ↦ elim (cases_eq ask.block.0 block.0) [
    | inr ne ↦ inr ne
    | inl too ↦ absurd (let h : (ask.core.0 == core.0) && (ask.block.0 == block.0) ≡ false = e in grind (arith, nat_tests))
  ]
]

stays-apart : (before now : State) (cb cn : List Core) (core : CacheId) (block : BlockId) (asks : List CoreAsk) →
    AgreeBut (Some (Cache core)) block.0 before now cb cn → StaysApart before now core block asks
unfolding StaysApart
stays-apart before now cb cn core block asks agree at ask is apart = elim (is-another core block ask apart) [
  | inl ne ↦ (agree.cores ask.core (other-core core ask.core ne)).lines ask.block.0
  | inr ne ↦ agree.blocks ask.core.0 ask.block.0 ne
]

-- a lane whose marks were right, of which those of a core and a block were made anew
pub anew-right : (tables : Tables) (before now : State) (cb cn : List Core) (core : CacheId) (block : BlockId) (held : HeldAsks) (old : Listed) →
    before.broken ≡ false → now.broken ≡ false → AreHeldAt tables now core block held → AgreeBut (Some (Cache core)) block.0 before now cb cn →
    IsMarked tables now old ⊎ IsMarked tables before old → IsMarked tables now (marked_by held core block old)
unfolding StaysApart
anew-right tables before now cb cn core block held old sb sn all agree were =
    let right : marks_at tables now core block old.asks old.unheld ≡ map (is_unheld tables now) old.asks = (elim were [
      | inl e ↦ ap (marks_at tables now core block old.asks) e ∙ anew-now tables now core block old.asks
      | inr e ↦ ap (marks_at tables now core block old.asks) e
          ∙ anew-before tables before now core block old.asks sb sn (stays-apart before now cb cn core block old.asks agree)
    ]) in
    by-held tables now core block held all old.asks old.unheld ∙ right

-- where a line holds the same as before, the marks are right still
pub held-right : (tables : Tables) (before now : State) (cb cn : List Core) (core : CacheId) (block : BlockId) (held : HeldAsks) (old : Listed) →
    before.broken ≡ false → now.broken ≡ false → AreHeldAt tables before core block held → AreHeldAt tables now core block held →
    AgreeBut (Some (Cache core)) block.0 before now cb cn → IsMarked tables now old ⊎ IsMarked tables before old → IsMarked tables now old
held-right tables before now cb cn core block held old sb sn was is agree were = elim were [
  | inl e ↦ e
  | inr e ↦ e ∙ same-held tables before now core block held old.asks sb sn was is (stays-apart before now cb cn core block old.asks agree)
]

-- a lane whose marks were right, and which has no ask of the core
pub still-right : (tables : Tables) (before now : State) (cb cn : List Core) (at : Option Place) (block : ℕ) (old : Listed) → before.broken ≡ false →
    now.broken ≡ false → AgreeBut at block before now cb cn →
    ((i : ℕ) (ask : CoreAsk) → slice_get old.asks i ≡ Some ask → at ≢ Some (Cache ask.core)) → IsMarked tables now old ⊎ IsMarked tables before old →
    IsMarked tables now old
still-right tables before now cb cn at block old sb sn agree apart were = elim were [
  | inl e ↦ e
  | inr e ↦ e ∙ stayed tables before now old.asks sb sn (λ i ask is. (agree.cores ask.core (apart i ask is)).lines ask.block.0)
]

-- ---- marking each of some lanes

-- a lane is marked, or it is as it was, and is the one that was done, or isn't among the first so many
abbrev pub IsMarkedSoFar : HeldAsks → CacheId → BlockId → List ℕ → ℕ → Option ℕ → List Listed → List Listed → ℕ → Type 0
IsMarkedSoFar held core block which n done now start lane =
    (get_or now lane nothing_listed ≡ marked_by held core block (get_or start lane nothing_listed))
    ⊎ ((get_or now lane nothing_listed ≡ get_or start lane nothing_listed) × ((done ≡ Some lane) ⊎ ((k : ℕ) → k < n → get_or which k 0 ≢ lane)))

pub marked-more : (held : HeldAsks) (core : CacheId) (block : BlockId) (now start : List Listed) (which : List ℕ) (n : ℕ) (done : Option ℕ) →
    ((lane : ℕ) → lane < length now → IsMarkedSoFar held core block which n done now start lane) → get_or which n 0 < length now →
    (lane : ℕ) → lane < length now →
    IsMarkedSoFar held core block which (n + 1) done
    (set now (get_or which n 0) (marked_by held core block (get_or now (get_or which n 0) nothing_listed))) start lane
marked-more held core block now start which n done each within lane low =
    let at = get_or which n 0 in
    let made = marked_by held core block (get_or now at nothing_listed) in
    elim (cases_eq lane at) [
      | inl q ↦ inl (ap (λ j. get_or (set now at made) j nothing_listed) q ∙ get_or-set_same now at made nothing_listed within
          ∙ once (each at within) ∙ ap (λ j. marked_by held core block (get_or start j nothing_listed)) (sym q))
      | inr ne ↦
          let o : get_or (set now at made) lane nothing_listed ≡ get_or now lane nothing_listed = get_or-set_other now at lane made nothing_listed ne in
          elim (each lane low) [
            | inl x ↦ inl (o ∙ x)
            | inr x ↦ inr (
              o ∙ x.0,
              elim x.1 [
                | inl is ↦ inl is
                | inr apart ↦ inr (λ k h q. elim (cases_lt k n) [
                  | inl l ↦ apart k l q
                  | inr l ↦ (let z : k ≡ n = omega (arith, h, l) in ne (sym q ∙ ap (λ j. get_or which j 0) z))
                ])
              ],
            )
          ]
    ]
  where
    once : IsMarkedSoFar held core block which n done now start (get_or which n 0) →
        marked_by held core block (get_or now (get_or which n 0) nothing_listed) ≡ marked_by held core block (get_or start (get_or which n 0) nothing_listed)
    once h = elim h [
      | inl e ↦
          let was = get_or start (get_or which n 0) nothing_listed in
          ap (marked_by held core block) e
          ∙ ap (λ (ms : List Bool). let l : Listed = record { asks = was.asks; unheld = ms } in l) (anew-twice held core block was.asks was.unheld)
      | inr x ↦ ap (marked_by held core block) x.0
    ]

-- the one that was done may be passed over
pub marked-past : (held : HeldAsks) (core : CacheId) (block : BlockId) (now start : List Listed) (which : List ℕ) (n many : ℕ) (done : Option ℕ) →
    ((lane : ℕ) → lane < many → IsMarkedSoFar held core block which n done now start lane) → done ≡ Some (get_or which n 0) → (lane : ℕ) → lane < many →
    IsMarkedSoFar held core block which (n + 1) done now start lane
marked-past held core block now start which n many done each is lane low = elim (each lane low) [
  | inl x ↦ inl x
  | inr x ↦ elim (cases_eq (get_or which n 0) lane) [
    | inl q ↦ inr (x.0, inl (is ∙ ap Some q))
    | inr ne ↦ inr (
      x.0,
      elim x.1 [
        | inl d ↦ inl d
        | inr apart ↦ inr (λ k h q. elim (cases_lt k n) [
          | inl l ↦ apart k l q
          | inr l ↦ (let z : k ≡ n = omega (arith, h, l) in ne (sym (ap (λ j. get_or which j 0) z) ∙ q))
        ])
      ],
    )
  ]
]

-- so may one that isn't there
pub marked-beyond : (held : HeldAsks) (core : CacheId) (block : BlockId) (now start : List Listed) (which : List ℕ) (n many : ℕ) (done : Option ℕ) →
    ((lane : ℕ) → lane < many → IsMarkedSoFar held core block which n done now start lane) → many ≤ get_or which n 0 → (lane : ℕ) → lane < many →
    IsMarkedSoFar held core block which (n + 1) done now start lane
marked-beyond held core block now start which n many done each past lane low = elim (each lane low) [
  | inl x ↦ inl x
  | inr x ↦ inr (
    x.0,
    elim x.1 [
      | inl d ↦ inl d
      | inr apart ↦ inr (λ k h q. elim (cases_lt k n) [
        | inl l ↦ apart k l q
        | inr l ↦ (let z : get_or which k 0 ≡ get_or which n 0 = ap (λ j. get_or which j 0) (let y : k ≡ n = omega (arith, h, l) in y) in
            absurd (omega (arith, z, q, past, low)))
      ])
    ],
  )
]

pub left-more : (P : ℕ → Type 0) (Q : ℕ → Type 0) (which : List ℕ) (n many : ℕ) →
    ((lane : ℕ) → lane < many → P lane ⊎ (Q lane × ((k : ℕ) → k < n → get_or which k 0 ≢ lane))) → many ≤ get_or which n 0 →
    (lane : ℕ) → lane < many → P lane ⊎ (Q lane × ((k : ℕ) → k < n + 1 → get_or which k 0 ≢ lane))
left-more P Q which n many each past lane low = elim (each lane low) [
  | inl x ↦ inl x
  | inr x ↦ inr (
    x.0,
    λ k h q. elim (cases_lt k n) [
      | inl l ↦ x.1 k l q
      | inr l ↦ (let z : get_or which k 0 ≡ get_or which n 0 = ap (λ j. get_or which j 0) (let y : k ≡ n = omega (arith, h, l) in y) in
          absurd (omega (arith, z, q, past, low)))
    ],
  )
]

pub not-among : (which : List ℕ) (n lane : ℕ) → length which ≤ n → ((k : ℕ) → k < n → get_or which k 0 ≢ lane) → ¬ Contains which lane
not-among which n lane all each there =
    each there.0 (let h = there.1 in omega (arith, h, all)) (get_or_default which there.0 0 lane there.1 ∙ there.2)

-- nothing but marks has changed
pub level-marks : (old new : Laned) → ChangesMarks old new → IsLevel old → IsLevel new
level-marks old new m level = record {
  sources = ap (λ (s : Source). length s.trees) m.source ∙ level.sources ∙ sym (ap length m.trees);
  opened = ap length m.opened ∙ level.opened ∙ sym (ap length m.trees);
  listed = m.long ∙ level.listed ∙ sym (ap length m.trees);
  lengths = ap length m.lengths ∙ level.lengths ∙ sym (ap length m.trees);
  ready = ap length m.ready ∙ level.ready ∙ sym (ap length m.trees);
  few = subst (λ n. n ≤ 2 ^ 31) (sym (ap length m.trees)) level.few;
  rows = subst (λ n. 1 ≤ n) (sym (ap length m.reached)) level.rows;
}

listed-still : (old new : Laned) (tree : Tree) (lane : ℕ) → ChangesMarks old new → IsListedAs tree old lane → IsListedAs tree new lane
listed-still old new tree lane m h =
    let same = m.asks lane in
    record {
      offered = same ∙ h.offered;
      count = ap (λ ns. get_or ns lane 0) m.lengths ∙ h.count ∙ ap length (sym same);
      short = subst (λ xs. length xs < 2 ^ 32) (sym same) h.short;
      reached = λ at ask e. subst (λ rs. Contains (lanes_of rs ask.core.0) lane) (sym m.reached)
          (h.reached at ask (ap (λ xs. slice_get xs at) (sym same) ∙ e));
    }

pub listed-marks : (old new : Laned) → ChangesMarks old new → AreListed old → AreListed new
listed-marks old new m listed lane low =
    subst (λ ts. IsListedAs (get_or ts lane (Seq Nil)) new lane) (sym m.trees)
    (listed-still old new (tree_of_lane old lane) lane m (listed lane (subst (λ ts. lane < length ts) m.trees low)))

pub opened-marks : (old new : Laned) → ChangesMarks old new → AreAsOpened old → AreAsOpened new
opened-marks old new m opened lane is =
    subst (λ (s : Source). IsListedAs (get_or s.trees lane (Seq Nil)) new lane) (sym m.source)
    (listed-still old new (source_at old lane) lane m (opened lane (sym (ap (λ bs. get_or bs lane false) m.opened) ∙ is)))

-- nothing but counts has changed
pub level-counts : (old new : Laned) → ChangesCounts old new → IsLevel old → IsLevel new
level-counts old new m level =
    subst IsLevel (sym m.same)
    (record {
      sources = level.sources;
      opened = level.opened;
      listed = level.listed;
      lengths = level.lengths;
      ready = m.long ∙ level.ready;
      few = level.few;
      rows = level.rows;
    })

pub listed-counts : (old new : Laned) → ChangesCounts old new → AreListed old → AreListed new
listed-counts old new m listed =
    subst AreListed (sym m.same)
    (λ lane low. let h = listed lane low in record { offered = h.offered; count = h.count; short = h.short; reached = h.reached })

pub opened-counts : (old new : Laned) → ChangesCounts old new → AreAsOpened old → AreAsOpened new
opened-counts old new m opened =
    subst AreAsOpened (sym m.same)
    (λ lane is. let h = opened lane is in record { offered = h.offered; count = h.count; short = h.short; reached = h.reached })

pub marks-only : (held : HeldAsks) (core : CacheId) (block : BlockId) (which : List ℕ) (done : Option ℕ) (old new : Laned) →
    new.source ≡ old.source → new.as_opened ≡ old.as_opened → new.trees ≡ old.trees →
    new.stocks ≡ old.stocks → new.lengths ≡ old.lengths → new.ready ≡ old.ready → new.reached ≡ old.reached → new.usable ≡ old.usable →
    length new.listed ≡ length old.listed → length old.listed ≡ length old.trees →
    ((lane : ℕ) → lane < length old.trees → IsMarkedIn held core block which done (listed_at old lane) (listed_at new lane) lane) → ChangesMarks old new
marks-only held core block which done old new source opened trees stocks lengths ready reached usable long many each = record {
  source = source;
  opened = opened;
  trees = trees;
  stocks = stocks;
  lengths = lengths;
  ready = ready;
  reached = reached;
  usable = usable;
  long = long;
  asks = λ lane. elim (cases_lt lane (length old.trees)) [
    | inl low ↦ elim (each lane low) [
      | inl e ↦ ap (λ (l : Listed). l.asks) e
      | inr h ↦ ap (λ (l : Listed). l.asks) h.0
    ]
    | inr past ↦ ap (λ (l : Listed). l.asks) (get_or_past new.listed lane nothing_listed (omega (arith, past, long, many))
        ∙ sym (get_or_past old.listed lane nothing_listed (omega (arith, past, many))))
  ];
}

-- where the lanes of a core were marked again, all marks are right
pub all-marked : (tables : Tables) (before now : State) (cb cn : List Core) (but done : Option ℕ) (core : CacheId) (block : BlockId) (held : HeldAsks)
    (old new : Laned) → AreListed old → ChangesMarks old new → before.broken ≡ false → now.broken ≡ false → AreHeldAt tables now core block held →
    IfSome done (λ lane. IsMarked tables now (listed_at old lane)) → WereReady tables before cb now but old →
    AgreeBut (Some (Cache core)) block.0 before now cb cn →
    ((lane : ℕ) → lane < length old.trees → IsMarkedIn held core block (lanes_of old.reached core.0) done (listed_at old lane) (listed_at new lane) lane) →
    AreMarked tables now new
all-marked tables before now cb cn but done core block held old new listed m sb sn all right were agree each lane low =
    let there : lane < length old.trees = subst (λ ts. lane < length ts) m.trees low in
    elim (each lane there) [
      | inl e ↦ subst (IsMarked tables now) (sym e)
          (anew-right tables before now cb cn core block held (listed_at old lane) sb sn all agree (were.marked lane there))
      | inr h ↦ subst (IsMarked tables now) (sym h.0) (elim h.1 [
        | inl is ↦ subst (λ of. IfSome of (λ lane. IsMarked tables now (listed_at old lane))) is right
        | inr apart ↦ still-right tables before now cb cn (Some (Cache core)) block.0 (listed_at old lane) sb sn agree
            (λ i ask is c. apart (subst (λ (of : CacheId). Contains (lanes_of old.reached of.0) lane) (sym (same-cache core ask.core c))
            ((listed lane there).reached i ask is))) (were.marked lane there)
      ])
    ]

-- where a line holds the same as before, they stayed so
pub all-held : (tables : Tables) (before now : State) (cb cn : List Core) (but : Option ℕ) (core : CacheId) (block : BlockId) (held : HeldAsks) (l : Laned) →
    before.broken ≡ false → now.broken ≡ false → AreHeldAt tables before core block held → AreHeldAt tables now core block held →
    WereReady tables before cb now but l → AgreeBut (Some (Cache core)) block.0 before now cb cn → AreMarked tables now l
all-held tables before now cb cn but core block held l sb sn was is were agree lane low =
    held-right tables before now cb cn core block held (listed_at l lane) sb sn was is agree (were.marked lane low)

-- where nothing was done at a cache, they stayed so
pub all-right : (tables : Tables) (before now : State) (cb cn : List Core) (but : Option ℕ) (at : Option Place) (block : ℕ) (l : Laned) →
    ((core : CacheId) → at ≢ Some (Cache core)) → before.broken ≡ false → now.broken ≡ false → WereReady tables before cb now but l →
    AgreeBut at block before now cb cn → AreMarked tables now l
all-right tables before now cb cn but at block l nowhere sb sn were agree lane low =
    still-right tables before now cb cn at block (listed_at l lane) sb sn agree (λ i ask is. nowhere ask.core) (were.marked lane low)

-- ---- counting again

pub counted-more : (cores : List Core) (lanes : List Listed) (ready start which : List ℕ) (n count : ℕ) →
    ((lane : ℕ) → lane < length lanes → (get_or ready lane 0 ≡ count_by cores (get_or lanes lane nothing_listed))
    ⊎ ((get_or ready lane 0 ≡ get_or start lane 0) × ((k : ℕ) → k < n → get_or which k 0 ≢ lane))) →
    get_or which n 0 < length ready → count ≡ count_by cores (get_or lanes (get_or which n 0) nothing_listed) → (lane : ℕ) → lane < length lanes →
    (get_or (set ready (get_or which n 0) count) lane 0 ≡ count_by cores (get_or lanes lane nothing_listed))
    ⊎ ((get_or (set ready (get_or which n 0) count) lane 0 ≡ get_or start lane 0) × ((k : ℕ) → k < n + 1 → get_or which k 0 ≢ lane))
counted-more cores lanes ready start which n count each within e lane low =
    let at = get_or which n 0 in
    elim (cases_eq lane at) [
      | inl q ↦ inl (ap (λ j. get_or (set ready at count) j 0) q ∙ get_or-set_same ready at count 0 within ∙ e
          ∙ ap (λ j. count_by cores (get_or lanes j nothing_listed)) (sym q))
      | inr ne ↦
          let o : get_or (set ready at count) lane 0 ≡ get_or ready lane 0 = get_or-set_other ready at lane count 0 ne in
          elim (each lane low) [
            | inl x ↦ inl (o ∙ x)
            | inr x ↦ inr (
              o ∙ x.0,
              λ k h q. elim (cases_lt k n) [
                | inl l ↦ x.1 k l q
                | inr l ↦ (let z : k ≡ n = omega (arith, h, l) in ne (sym q ∙ ap (λ j. get_or which j 0) z))
              ],
            )
          ]
    ]

-- behind the counting of the lanes of a core these are counted
pub counted-at-all : (cores : List Core) (at : Option Place) (old new : Laned) → ChangesCounts old new →
    ((lane : ℕ) → lane < length old.trees → IsCountedAt cores at old new lane) → AreCountedAt cores at new
counted-at-all cores at old new counts each core lane is low there =
    let trees = ap (λ (l : Laned). l.trees) counts.same in
    elim (each lane (subst (λ ts. lane < length ts) trees low)) [
      | inl e ↦ e ∙ ap (λ xs. count_by cores (get_or xs lane nothing_listed)) (sym (ap (λ (l : Laned). l.listed) counts.same))
      | inr h ↦ absurd (h.1 core is (subst (λ rs. Contains (lanes_of rs core.0) lane) (ap (λ (l : Laned). l.reached) counts.same) there))
    ]

-- a lane that was counted need not be counted again
pub counted-already : (cores : List Core) (lane other : ℕ) (anew : Option ℕ) (l : Laned) → anew ≡ Some lane →
    get_or l.ready lane 0 ≡ count_by cores (listed_at l lane) → IsCountedIf cores anew l l other
counted-already cores lane other anew l is counted = elim (cases_eq other lane) [
  | inl q ↦ inl (subst (λ n. get_or l.ready n 0 ≡ count_by cores (listed_at l n)) (sym q) counted)
  | inr ne ↦ inr (refl, λ some. ne (same-number other lane (sym (sym is ∙ some))))
]
  where
    same-number : (a b : ℕ) → Some a ≡ Some b → a ≡ b
    same-number a b e = cc e

-- what can be put of a lane that isn't counted again is what could be
abbrev pub Stays : Tables → State → State → List Core → List Core → Option ℕ → Option Place → Laned → Type 0
Stays tables before now cb cn but at l = (lane : ℕ) → lane < length l.trees → but ≢ Some lane →
    ((core : CacheId) → at ≡ Some (Cache core) → ¬ Contains (lanes_of l.reached core.0) lane) →
    puttable tables before cb (offers_at l lane) ≡ puttable tables now cn (offers_at l lane)

-- so it is where the lanes were counted that have an ask of the core
pub stays-agreed : (tables : Tables) (before now : State) (cb cn : List Core) (but : Option ℕ) (at : Option Place) (block : ℕ) (l : Laned) → AreListed l →
    before.broken ≡ false → now.broken ≡ false → AgreeBut at block before now cb cn → Stays tables before now cb cn but at l
stays-agreed tables before now cb cn but at block l listed sb sn agree lane low ne apart =
    same-count tables before now cb cn 0 (offers_at l lane) sb sn
    (λ i ask is. agree.cores ask.core (λ c. apart ask.core c ((listed lane low).reached i ask is)))

free-alike : (cb cn : List Core) (i : ℕ) (asks : List CoreAsk) (marks : List Bool) → AreAsFree cb cn → offers_by cb i asks marks ≡ offers_by cn i asks marks
free-alike cb cn i [] marks same = refl
free-alike cb cn i (ask ∷ asks) [] same = refl
free-alike cb cn i (ask ∷ asks) (m ∷ marks) same =
    ap (λ b. (if b && m then Offer i ask ∷ [] else []) ++ offers_by cb (i + 1) asks marks) (sym (same ask.core.0))
    ∙ ap (λ later. (if is_free cn ask.core.0 && m then Offer i ask ∷ [] else []) ++ later) (free-alike cb cn (i + 1) asks marks same)

-- and where marks are as they were, and cores free where they were
pub stays-quiet : (tables : Tables) (before now : State) (cb cn : List Core) (but : Option ℕ) (at : Option Place) (l : Laned) →
    WereReady tables before cb now but l → AreMarked tables now l → AreAsFree cb cn → Stays tables before now cb cn but at l
stays-quiet tables before now cb cn but at l were right free lane low ne apart =
    let asks = offers_at l lane in
    let marks = (listed_at l lane).unheld in
    ap length (sym (by-marks tables before cb 0 asks marks (were.still lane low ne)) ∙ free-alike cb cn 0 asks marks free
    ∙ by-marks tables now cn 0 asks marks (right lane low))

-- the counts are right behind it all: of the lanes that have an ask of the core and of the one that was listed anew, and of the others as they were
pub all-counted : (tables : Tables) (before now : State) (cb cn : List Core) (but : Option ℕ) (at : Option Place) (old mid once new : Laned) →
    WereReady tables before cb now but old → ChangesMarks old mid →
    (now.broken ≡ false → AreMarked tables now mid) → ChangesCounts mid once →
    ((lane : ℕ) → lane < length mid.trees → IsCountedAt cn at mid once lane) → ChangesCounts once new →
    ((lane : ℕ) → lane < length once.trees → IsCountedIf cn but once new lane) →
    (now.broken ≡ false → Stays tables before now cb cn but at old) → AreReady tables now cn new
all-counted tables before now cb cn but at old mid once new were marks right first each second last stays = record {
  marked = λ sn lane low. subst (λ ls. IsMarked tables now (get_or ls lane nothing_listed)) (sym listings) (right sn lane (there lane low));
  counted = λ sn lane low.
      let here = there lane low in
      let same : offers_at new lane ≡ offers_at old lane = ap (λ xs. (get_or xs lane nothing_listed).asks) listings ∙ marks.asks lane in
      let by : count_by cn (listed_at mid lane) ≡ puttable tables now cn (offers_at new lane) =
      ap length (by-marks tables now cn 0 (offers_at mid lane) (listed_at mid lane).unheld (right sn lane here))
      ∙ ap (puttable tables now cn) (ap (λ xs. (get_or xs lane nothing_listed).asks) (sym listings)) in
      elim (last lane (subst (λ ts. lane < length ts) (ap (λ (l : Laned). l.trees) second.same) low)) [
        | inl e ↦ e ∙ ap (λ xs. count_by cn (get_or xs lane nothing_listed)) (ap (λ (l : Laned). l.listed) first.same) ∙ by
        | inr h ↦ elim (each lane here) [
          | inl e ↦ h.0 ∙ e ∙ by
          | inr f ↦
              let low-old : lane < length old.trees = subst (λ ts. lane < length ts) marks.trees here in
              h.0 ∙ f.0 ∙ ap (λ ns. get_or ns lane 0) marks.ready ∙ were.counted lane low-old h.1
              ∙ stays sn lane low-old h.1 (λ core is has. f.1 core is (subst (λ rs. Contains (lanes_of rs core.0) lane) (sym marks.reached) has))
              ∙ ap (puttable tables now cn) (sym same)
        ]
      ];
}
  where
    listings : new.listed ≡ mid.listed
    listings = ap (λ (l : Laned). l.listed) second.same ∙ ap (λ (l : Laned). l.listed) first.same

    there : (lane : ℕ) → lane < length new.trees → lane < length mid.trees
    there lane low = subst (λ ts. lane < length ts) (ap (λ (l : Laned). l.trees) second.same ∙ ap (λ (l : Laned). l.trees) first.same) low

-- what is asked of a sound world alone
pub where-sound : (tables : Tables) (state : State) (cores : List Core) (l : Laned) → (state.broken ≡ false → AreReady tables state cores l) →
    AreReady tables state cores l
where-sound tables state cores l ready = record {
  marked = λ sound. (ready sound).marked sound;
  counted = λ sound. (ready sound).counted sound;
}

-- ---- opening lanes one by one

-- a lane whose marks are right need not be marked
pub marked-already : (tables : Tables) (s : State) (lane : ℕ) (l : Laned) → IsMarked tables s (listed_at l lane) → l ≡ marked_in tables s lane l
marked-already tables s lane l e =
    let was : Listed = listed_at l lane in
    let right : was ≡ all_marked tables s was = λ i. record { asks = was.asks; unheld = e i } in
    let all : l.listed ≡ set l.listed lane (all_marked tables s was) = sym (set-get_or l.listed lane nothing_listed) ∙ ap (set l.listed lane) right in
    ap (λ (ls : List Listed). record l { listed = ls }) all

listed-marked : (tables : Tables) (s : State) (lane at : ℕ) (l : Laned) (tree : Tree) → IsListedAs tree l at → lane < length l.listed →
    IsListedAs tree (marked_in tables s lane l) at
listed-marked tables s lane at l tree h low =
    let new = marked_in tables s lane l in
    let same : offers_at new at ≡ offers_at l at = (elim (cases_eq at lane) [
      | inl q ↦ ap (λ n. (get_or (set l.listed lane (record { asks = offers_at l lane; unheld = map (is_unheld tables s) (offers_at l lane) })) n
          nothing_listed).asks) q
          ∙ ap (λ (x : Listed). x.asks) (get_or-set_same l.listed lane _ nothing_listed low) ∙ ap (offers_at l) (sym q)
      | inr ne ↦ ap (λ (x : Listed). x.asks) (get_or-set_other l.listed lane at _ nothing_listed ne)
    ]) in
    record {
      offered = same ∙ h.offered;
      count = h.count ∙ ap length (sym same);
      short = subst (λ xs. length xs < 2 ^ 32) (sym same) h.short;
      reached = λ i ask e. h.reached i ask (ap (λ xs. slice_get xs i) (sym same) ∙ e);
    }

-- so it is of all
pub marked-listed : (tables : Tables) (s : State) (lane : ℕ) (l : Laned) → IsLevel l → lane < length l.trees → AreListed l →
    AreListed (marked_in tables s lane l)
marked-listed tables s lane l level there listed at low =
    let many = level.listed in
    listed-marked tables s lane at l (tree_of_lane l at) (listed at low) (omega (arith, there, many))

pub marked-opened : (tables : Tables) (s : State) (lane : ℕ) (l : Laned) → IsLevel l → lane < length l.trees → AreAsOpened l →
    AreAsOpened (marked_in tables s lane l)
marked-opened tables s lane l level there opened at is =
    let many = level.listed in
    listed-marked tables s lane at l (source_at l at) (opened at is) (omega (arith, there, many))

pub level-marked : (tables : Tables) (s : State) (lane : ℕ) (l : Laned) → IsLevel l → IsLevel (marked_in tables s lane l)
level-marked tables s lane l h = record {
  sources = h.sources;
  opened = h.opened;
  listed = length-set l.listed lane _ ∙ h.listed;
  lengths = h.lengths;
  ready = h.ready;
  few = h.few;
  rows = h.rows;
}

listed-counted : (cores : List Core) (lane at : ℕ) (l : Laned) → IsListed l at → IsListed (counted_at cores lane l) at
listed-counted cores lane at l h = record { offered = h.offered; count = h.count; short = h.short; reached = h.reached }

-- a lane was listed, marked and counted
pub record Opens (tables : Tables) (s : State) (cores : List Core) (lane : ℕ) (old mid marked new : Laned) : Type 0 where
  pub level : IsLevel mid
  pub there : lane < length mid.trees
  pub here : IsListed mid lane
  pub others : KeepsOtherLanes lane old mid
  pub marks : marked ≡ marked_in tables s lane mid
  pub counts : new ≡ counted_at cores lane marked

pub one-listed : (tables : Tables) (s : State) (cores : List Core) (lane : ℕ) (old mid marked new : Laned) → Opens tables s cores lane old mid marked new →
    ((at : ℕ) → at < lane → IsListed old at) → (at : ℕ) → at < lane + 1 → IsListed new at
one-listed tables s cores lane old mid marked new o before at low =
    let inside : lane < length mid.listed = (let t = o.there in let m = o.level.listed in omega (arith, t, m)) in
    let was : IsListed mid at = (elim (cases_lt at lane) [
      | inl l ↦ o.others.listed at (λ q. absurd (omega (arith, q, l))) (before at l)
      | inr l ↦ (let z : at ≡ lane = omega (arith, l, low) in subst (IsListed mid) (sym z) o.here)
    ]) in
    subst (λ (l : Laned). IsListed l at) (sym (o.counts ∙ ap (counted_at cores lane) o.marks))
    (listed-counted cores lane at (marked_in tables s lane mid) (listed-marked tables s lane at mid (tree_of_lane mid at) was inside))

-- the marks and the count of a lane are right
pub record IsRight (tables : Tables) (s : State) (cores : List Core) (l : Laned) (at : ℕ) : Type 0 where
  pub marked : IsMarked tables s (listed_at l at)
  pub counted : get_or l.ready at 0 ≡ puttable tables s cores (offers_at l at)

pub one-right : (tables : Tables) (s : State) (cores : List Core) (lane : ℕ) (old mid marked new : Laned) → Opens tables s cores lane old mid marked new →
    ((at : ℕ) → at < lane → IsRight tables s cores old at) → (at : ℕ) → at < lane + 1 → IsRight tables s cores new at
one-right tables s cores lane old mid marked new o before at low =
    subst (λ (l : Laned). IsRight tables s cores l at) (sym (o.counts ∙ ap (counted_at cores lane) o.marks)) (elim (cases_lt at lane) [
      | inl l ↦ (let ne : at ≢ lane = λ q. absurd (omega (arith, q, l)) in
          let was = before at l in
          let same : listed_at (marked_in tables s lane mid) at ≡ listed_at old at =
          get_or-set_other mid.listed lane at (right-at lane) nothing_listed ne ∙ o.others.same at ne in
          record {
            marked = subst (IsMarked tables s) (sym same) was.marked;
            counted = get_or-set_other mid.ready lane at _ 0 ne ∙ ap (λ ns. get_or ns at 0) o.others.ready ∙ was.counted
                ∙ ap (λ (x : Listed). puttable tables s cores x.asks) (sym same);
          })
      | inr l ↦ (let z : at ≡ lane = omega (arith, l, low) in
          let inside : lane < length mid.listed = (let t = o.there in let m = o.level.listed in omega (arith, t, m)) in
          let same : listed_at (marked_in tables s lane mid) lane ≡ right-at lane = get_or-set_same mid.listed lane (right-at lane) nothing_listed inside in
          subst (IsRight tables s cores (counted_at cores lane (marked_in tables s lane mid))) (sym z) (record {
            marked = subst (IsMarked tables s) (sym same) refl;
            counted = get_or-set_same mid.ready lane _ 0 (let t = o.there in let m = o.level.ready in omega (arith, t, m))
                ∙ ap (count_by cores) same
                ∙ ap length (by-marks tables s cores 0 (offers_at mid lane) (map (is_unheld tables s) (offers_at mid lane)) refl)
                ∙ ap (λ (x : Listed). puttable tables s cores x.asks) (sym same);
          }))
    ])
  where
    right-at : ℕ → Listed
    right-at lane = record { asks = offers_at mid lane; unheld = map (is_unheld tables s) (offers_at mid lane) }
