-- A message that no stall holds gives a step that delivers it.
use Rattle.std.proofs.Common.{◌≡◌, ◌≢◌, ◌⊎◌, ℕ, ◌<◌, List, [], ◌∷◌, refl, ap, sym, subst, inl, inr, Option, Some, None, Bool, true, false}
use Rattle.std.proofs.Common.{◌&&◌, ◌||◌, ◌==◌, if◌then◌else◌, slice_get, sum_by, suc, arith, eq-eqb}
use Rattle.std.proofs.lemmas.Bool.{cases_eq}
use Rattle.std.proofs.lemmas.List.Sums.{sum_by-cons}
use Rattle.base.specs.declared.ids.CacheId.{CacheId}
use Rattle.base.specs.declared.ids.BlockId.{BlockId}
use Rattle.base.specs.declared.ids.Place.TheVariants.{Dir, Cache}
use Rattle.base.specs.declared.step.Step.TheVariants as step
use Rattle.base.specs.declared.step.Outcome.TheVariants as outcome
use Rattle.base.specs.declared.controller.entry.CellEntry.TheVariants as table_entry
use Rattle.network.specs.declared.message.Request.{Request}
use Rattle.network.specs.declared.message.RequestKind.{RequestKind}
use Rattle.network.specs.declared.message.RequestKind.TheVariants as request
use Rattle.network.specs.declared.message.Forward.{Forward}
use Rattle.network.specs.declared.message.Response.{Response}
use Rattle.network.specs.declared.message.Response.TheVariants.{Data, InvAck, DataExcl}
use Rattle.network.specs.Traffic.{link}
use Rattle.cache_table.specs.declared.event.CacheEvent.{CacheEvent}
use Rattle.cache_table.specs.declared.event.CacheEvent.TheVariants as event
use Rattle.cache_table.specs.Table as cache_table
use Rattle.cache_table.specs.Table.{CacheEntry}
use Rattle.directory_table.specs.declared.event.DirectoryEvent.{DirectoryEvent}
use Rattle.directory_table.specs.declared.event.DirectoryEvent.TheVariants as home_event
use Rattle.directory_table.specs.Table as directory_table
use Rattle.directory_table.specs.Table.{DirectoryEntry}
use Rattle.control.specs.declared.line.Line.{Line}
use Rattle.control.specs.declared.line.LineInput.{LineInput}
use Rattle.control.specs.declared.line.LineInput.TheVariants as line_input
use Rattle.control.specs.declared.line.LineCompletion.{LineCompletion}
use Rattle.control.specs.declared.line.LineCompletion.TheVariants as done
use Rattle.control.specs.declared.home.HomeInput.{HomeInput}
use Rattle.control.specs.declared.home.HomeInput.TheVariants as home_input
use Rattle.control.specs.LineEvents.{event_at_line, response_event, forward_event, is_count}
use Rattle.control.specs.HomeEvents.{request_event}
use Rattle.control.specs.LineEffect.{line_completes}
use Rattle.control.specs.Sharing.{shares, others_from}
use Rattle.tables.specs.Tables.{Tables}
use Rattle.machine.specs.Block.{BlockState, IsBlockAmong}
use Rattle.machine.specs.Transition.{outcome_of, carried_out, by_line_entry, by_home_entry, at_line, at_request, at_forward, at_response}
use Rattle.machine.specs.declared.decision.Origin.{Origin}
use Rattle.machine.specs.declared.decision.Origin.TheVariants as origin
use Rattle.machine.proofs.Counts.{only}
use Rattle.machine.proofs.Seen.{from, is_gets, is_getm, is_puts, is_putm, dir_data, owner_data, excl_data, home_data, inv_ack}
use Rattle.machine.proofs.Sound.{line_of-there}
use Rattle.machine.proofs.Moves as moving
use Rattle.machine.proofs.Cases.{by-test}
use Rattle.pairs.specs.declared.side.Lag.{Lag}
use Rattle.pairs.specs.declared.side.PairSide.{PairSide}
use Rattle.pairs.specs.Sights.{acks_awaited, is_level}
use Rattle.closing.specs.Blamed.{line_stalls, home_stalls, line_holds, home_holds, holds_head, holds_requests, holds_dir_data, holds_data, holds_side}
use Rattle.closing.specs.Blamed.{holds_home_data, puts_event, putm_event}
use Rattle.closing.proofs.Alpha.{Tags, side, shared, Faithful}
use Rattle.closing.proofs.AlphaFits.{places}
use Rattle.closing.proofs.LineActing.{same-if}
use Rattle.closing.proofs.Sending.{not-twice}
use Rattle.closing.proofs.DirDataActs.{same-event}
use Rattle.closing.proofs.RequestKinds.{same-owner}

-- TESTS
pub and-cases : (s t : Bool) → s && t ≡ false → (s ≡ false) ⊎ (t ≡ false)
and-cases true t e = inr e
and-cases false t e = inl refl

pub not-or : (s t : Bool) → s || t ≡ false → (s ≡ false) × (t ≡ false)
not-or true t e = absurd (cc)
not-or false t e = (refl, e)

pub not-zero : (n : ℕ) → (n == 0) ≡ false → n ≢ 0
not-zero n e z = let is : (n == 0) ≡ true = eq-eqb n 0 z in absurd (cc)

pub some-held : (n : ℕ) (t : Bool) → (n == 0) || t ≡ false → (n ≢ 0) × (t ≡ false)
some-held n t e = let h = not-or (n == 0) t e in (not-zero n h.0, h.1)

-- a member that a sum counts
pub find : {X : Type 0} (f : X → ℕ) (xs : List X) → sum_by f xs ≢ 0 → (i : ℕ) × (x : X) × (Some x ≡ slice_get xs i) × (f x ≢ 0)
find {X} f [] h = absurd (h refl)
find {X} f (x ∷ xs) h = elim (cases_eq (f x) 0) as (λ _. (i : ℕ) × (y : X) × (Some y ≡ slice_get (x ∷ xs) i) × (f y ≢ 0)) [
  | inl z ↦ let r : (i : ℕ) × (y : X) × (Some y ≡ slice_get xs i) × (f y ≢ 0) =
      find f xs (λ none. h (omega (arith, z, none, sum_by-cons f x xs))) in (suc r.0, r.1, r.2, r.3)
  | inr ne ↦ (0, x, refl, ne)
]

pub only-some : (m c n : ℕ) → only (m == c) n ≢ 0 → (m ≡ c) × (n ≢ 0)
only-some m c n h = at (m == c) refl h
  where
    at : (t : Bool) → (m == c) ≡ t → only t n ≢ 0 → (m ≡ c) × (n ≢ 0)
    at true e some = (same-if m c e, some)
    at false e some = absurd (some refl)

-- CELLS
-- what a cell that acts comes to
completed : (cache : CacheId) (from : Origin) (c : Option LineCompletion) →
    (outcome_of cache from c ≢ outcome.Held) × (outcome_of cache from c ≢ outcome.Absent) × (outcome_of cache from c ≢ outcome.Broken)
    × (outcome_of cache from c ≢ outcome.Idle)
completed cache origin.Core None = (λ e. absurd (cc), λ e. absurd (cc), λ e. absurd (cc), λ e. absurd (cc))
completed cache (origin.Request i) None = (λ e. absurd (cc), λ e. absurd (cc), λ e. absurd (cc), λ e. absurd (cc))
completed cache (origin.Head c) None = (λ e. absurd (cc), λ e. absurd (cc), λ e. absurd (cc), λ e. absurd (cc))
completed cache (origin.Response i) None = (λ e. absurd (cc), λ e. absurd (cc), λ e. absurd (cc), λ e. absurd (cc))
completed cache from (Some (done.Load x)) = (λ e. absurd (cc), λ e. absurd (cc), λ e. absurd (cc), λ e. absurd (cc))
completed cache from (Some (done.Store x)) = (λ e. absurd (cc), λ e. absurd (cc), λ e. absurd (cc), λ e. absurd (cc))

pub line-serves : (b : BlockState) (cache : CacheId) (line : Line) (input : LineInput) (from : Origin) (x : CacheEntry) → line_stalls x ≡ false →
    moving.Moves (carried_out (by_line_entry x cache line input from) b)
line-serves b cache line input from table_entry.Blank h =
    record { served = λ e. absurd (cc); there = λ e. absurd (cc); whole = λ e. absurd (cc); busy = λ e. absurd (cc) }
line-serves b cache line input from table_entry.Stall h = absurd (cc)
line-serves b cache line input from (table_entry.Act next actions) h =
    let c = completed cache from (line_completes input next line) in
    record { served = c.0; there = c.1; whole = c.2; busy = c.3 }

home-serves : (b : BlockState) (input : HomeInput) (from : Origin) (x : DirectoryEntry) → home_stalls x ≡ false →
    moving.Moves (carried_out (by_home_entry x input from) b)
home-serves b input from table_entry.Blank h =
    record { served = λ e. absurd (cc); there = λ e. absurd (cc); whole = λ e. absurd (cc); busy = λ e. absurd (cc) }
home-serves b input from table_entry.Stall h = absurd (cc)
home-serves b input from (table_entry.Act next actions) h =
    record { served = λ e. absurd (cc); there = λ e. absurd (cc); whole = λ e. absurd (cc); busy = λ e. absurd (cc) }

line-moves : (tables : Tables) (b : BlockState) (cache : CacheId) (input : LineInput) (from : Origin) (line : Line) → Some line ≡ slice_get b.lines cache.0 →
    line_holds tables line.state (event_at_line line.acks input) ≡ false →
    moving.Moves (carried_out (at_line tables.cache cache input from (slice_get b.lines cache.0)) b)
line-moves tables b cache input from line there serves =
    subst (λ (o : Option Line). moving.Moves (carried_out (at_line tables.cache cache input from o) b)) there
    (line-serves b cache line input from (cache_table.cell tables.cache line.state (event_at_line line.acks input)) serves)

module _ (tables : Tables) (b : BlockState) (block : BlockId) where
  -- MESSAGES
  forward-found : (cache : CacheId) (line : Line) (f : Forward) → Some line ≡ slice_get b.lines cache.0 → Some f ≡ slice_get (link b.traffic cache.0) 0 →
      line_holds tables line.state (forward_event f.kind) ≡ false → moving.Found tables b block
  forward-found cache line f there at serves = (
    step.Forward block cache,
    tt,
    refl,
    subst (λ (o : Option Forward). moving.Moves (carried_out (at_forward tables.cache cache b.lines o) b)) at
        (line-moves tables b cache (line_input.Forward f) (origin.Head cache) line there serves),
  )

  request-found : (i : ℕ) (r : Request) → Some r ≡ slice_get b.traffic.requests i →
      home_holds tables b.home.state (request_event b.home.owner b.home.sharers r.kind r.from) ≡ false → moving.Found tables b block
  request-found i r at serves = (
    step.Request block i,
    tt,
    refl,
    subst (λ (o : Option Request). moving.Moves (carried_out (at_request tables.directory i b.home o) b)) at
        (home-serves b (home_input.Request r) (origin.Request i)
        (directory_table.cell tables.directory b.home.state (request_event b.home.owner b.home.sharers r.kind r.from)) serves),
  )

  response-found : (i : ℕ) (x : Response) → Some x ≡ slice_get b.traffic.responses i → moving.Moves (carried_out (at_response tables i b (Some x)) b) →
      moving.Found tables b block
  response-found i x at moves =
      (step.Response block i, tt, refl, subst (λ (o : Option Response). moving.Moves (carried_out (at_response tables i b o) b)) at moves)

  -- Data to the home
  home_data-at : (i : ℕ) (x : Response) → Some x ≡ slice_get b.traffic.responses i → home_data x ≢ 0 → home_holds tables b.home.state home_event.Data ≡ false →
      moving.Found tables b block
  home_data-at i (Data by Dir value acks) at some serves =
      response-found i (Data by Dir value acks) at
      (home-serves b (home_input.Data value) (origin.Response i) (directory_table.cell tables.directory b.home.state home_event.Data) serves)
  home_data-at i (Data by (Cache to) value acks) at some serves = absurd (some refl)
  home_data-at i (InvAck by to) at some serves = absurd (some refl)
  home_data-at i (DataExcl to value) at some serves = absurd (some refl)

  pub home_data-found : (tags : Tags) → holds_home_data tables (shared tags b) ≡ false → moving.Found tables b block
  home_data-found tags h =
      let held = some-held (sum_by home_data b.traffic.responses) (home_holds tables b.home.state home_event.Data) h in
      let x = find home_data b.traffic.responses held.0 in
      home_data-at x.0 x.1 x.2 x.3 held.1

  module _ (caches : ℕ) (tags : Tags) (whole : IsBlockAmong caches b) (faithful : Faithful tags b) where
    -- a cache that is there has a line
    line-there : (c : ℕ) → c < caches → (line : Line) × (Some line ≡ slice_get b.lines c)
    line-there c lt = moving.line-there b.lines c (omega (arith, lt, whole.lines))

    -- its line is the one that its side shows
    at-line : (c : ℕ) (line : Line) (e : CacheEvent) → Some line ≡ slice_get b.lines c → line_holds tables (side tags b c).state e ≡ false →
        line_holds tables line.state e ≡ false
    at-line c line e there h = subst (λ (l : Line). line_holds tables l.state e ≡ false) (line_of-there b.lines c line there) h

    to-line : (cache : CacheId) (i : ℕ) (x : Response) (e : CacheEvent) (line : Line) → Some line ≡ slice_get b.lines cache.0 → e ≡ response_event line.acks x →
        line_holds tables (side tags b cache.0).state e ≡ false →
        moving.Moves (carried_out (at_line tables.cache cache (line_input.Response x) (origin.Response i) (slice_get b.lines cache.0)) b)
    to-line cache i x e line there same h =
        line-moves tables b cache (line_input.Response x) (origin.Response i) line there
        (subst (λ (v : CacheEvent). line_holds tables line.state v ≡ false) same (at-line cache.0 line e there h))

    -- Data from the home can be delivered to a cache
    abbrev TakesDirData : ℕ → Type 0
    TakesDirData c = holds_dir_data tables (side tags b c).state (acks_awaited (side tags b c).lag (side tags b c).owed) ≡ false

    dir-at : (i : ℕ) (to : CacheId) (value acks : ℕ) → Some (Data Dir (Cache to) value acks) ≡ slice_get b.traffic.responses i → to.0 < caches →
        TakesDirData to.0 → moving.Found tables b block
    dir-at i to value acks at lt h = go (acks_awaited (side tags b to.0).lag (side tags b to.0).owed) refl h
      where
        go : (o : Option Lag) → acks_awaited (side tags b to.0).lag (side tags b to.0).owed ≡ o → holds_dir_data tables (side tags b to.0).state o ≡ false →
            moving.Found tables b block
        go None e free = absurd (cc)
        go (Some k) e free =
            let l = line-there to.0 lt in
            response-found i (Data Dir (Cache to) value acks) at
            (to-line to i (Data Dir (Cache to) value acks) (if is_level k then event.DataDirZero else event.DataDirMore) l.0 l.1
            (same-event tables caches tags b to i to value acks whole faithful at refl l.0 (line_of-there b.lines to.0 l.0 l.1) k e) free)

    -- Data from the home to a cache
    dir_data-found : (c i : ℕ) (x : Response) → Some x ≡ slice_get b.traffic.responses i → dir_data c x ≢ 0 → c < caches →
        TakesDirData c → moving.Found tables b block
    dir_data-found c i (Data Dir (Cache to) value acks) at some lt h =
        let same : to.0 ≡ c = (only-some to.0 c 1 some).0 in
        dir-at i to value acks at (omega (arith, same, lt))
        (subst TakesDirData (sym same) h)
    dir_data-found c i (Data Dir Dir value acks) at some lt h = absurd (some refl)
    dir_data-found c i (Data (Cache by) to value acks) at some lt h = absurd (some refl)
    dir_data-found c i (InvAck by to) at some lt h = absurd (some refl)
    dir_data-found c i (DataExcl to value) at some lt h = absurd (some refl)

    -- from another cache
    owner_data-found : (c i : ℕ) (x : Response) → Some x ≡ slice_get b.traffic.responses i → owner_data c x ≢ 0 → c < caches →
        line_holds tables (side tags b c).state event.DataOwner ≡ false → moving.Found tables b block
    owner_data-found c i (Data (Cache by) (Cache to) value acks) at some lt h =
        let same : to.0 ≡ c = (only-some to.0 c 1 some).0 in
        let l = line-there to.0 (omega (arith, same, lt)) in
        response-found i (Data (Cache by) (Cache to) value acks) at
        (to-line to i (Data (Cache by) (Cache to) value acks) event.DataOwner l.0 l.1 refl
        (subst (λ (n : ℕ). line_holds tables (side tags b n).state event.DataOwner ≡ false) (sym same) h))
    owner_data-found c i (Data (Cache by) Dir value acks) at some lt h = absurd (some refl)
    owner_data-found c i (Data Dir to value acks) at some lt h = absurd (some refl)
    owner_data-found c i (InvAck by to) at some lt h = absurd (some refl)
    owner_data-found c i (DataExcl to value) at some lt h = absurd (some refl)

    -- exclusive Data
    excl_data-found : (c i : ℕ) (x : Response) → Some x ≡ slice_get b.traffic.responses i → excl_data c x ≢ 0 → c < caches →
        line_holds tables (side tags b c).state event.DataDirExcl ≡ false → moving.Found tables b block
    excl_data-found c i (DataExcl to value) at some lt h =
        let same : to.0 ≡ c = (only-some to.0 c 1 some).0 in
        let l = line-there to.0 (omega (arith, same, lt)) in
        response-found i (DataExcl to value) at
        (to-line to i (DataExcl to value) event.DataDirExcl l.0 l.1 refl
        (subst (λ (n : ℕ). line_holds tables (side tags b n).state event.DataDirExcl ≡ false) (sym same) h))
    excl_data-found c i (Data by to value acks) at some lt h = absurd (some refl)
    excl_data-found c i (InvAck by to) at some lt h = absurd (some refl)

    -- an Inv-Ack, whether the last one or not
    inv_ack-at : (c i : ℕ) (x : Response) → Some x ≡ slice_get b.traffic.responses i → inv_ack c x ≢ 0 → c < caches →
        line_holds tables (side tags b c).state event.InvAck ≡ false → line_holds tables (side tags b c).state event.LastInvAck ≡ false →
        moving.Found tables b block
    inv_ack-at c i (InvAck by to) at some lt h k =
        let same : to.0 ≡ c = (only-some to.0 c 1 some).0 in
        let l = line-there to.0 (omega (arith, same, lt)) in
        let either : line_holds tables (side tags b to.0).state (response_event l.0.acks (InvAck by to)) ≡ false =
        by-test (λ t. line_holds tables (side tags b to.0).state (if t then event.LastInvAck else event.InvAck) ≡ false) (is_count l.0.acks 1)
        (λ last. subst (λ (n : ℕ). line_holds tables (side tags b n).state event.LastInvAck ≡ false) (sym same) k)
        (λ more. subst (λ (n : ℕ). line_holds tables (side tags b n).state event.InvAck ≡ false) (sym same) h) in
        response-found i (InvAck by to) at (to-line to i (InvAck by to) (response_event l.0.acks (InvAck by to)) l.0 l.1 refl either)
    inv_ack-at c i (Data by to value acks) at some lt h k = absurd (some refl)
    inv_ack-at c i (DataExcl to value) at some lt h k = absurd (some refl)

    pub inv_ack-found : (c : ℕ) → c < caches → sum_by (inv_ack c) b.traffic.responses ≢ 0 →
        line_holds tables (side tags b c).state event.InvAck ≡ false → line_holds tables (side tags b c).state event.LastInvAck ≡ false →
        moving.Found tables b block
    inv_ack-found c lt some h k = let x = find (inv_ack c) b.traffic.responses some in inv_ack-at c x.0 x.1 x.2 x.3 lt h k

    -- Data of any kind
    data-found : (c : ℕ) → c < caches → holds_data tables (side tags b c) ≡ false → moving.Found tables b block
    data-found c lt h =
        let s : PairSide = side tags b c in
        elim (and-cases _ _ h) [
          | inl more ↦ elim (and-cases _ _ more) [
            | inl dir ↦
                let some = some-held s.dir_data (holds_dir_data tables s.state (acks_awaited s.lag s.owed)) dir in
                let x = find (dir_data c) b.traffic.responses some.0 in
                dir_data-found c x.0 x.1 x.2 x.3 lt some.1
            | inr owner ↦
                let some = some-held s.owner_data (line_holds tables s.state event.DataOwner) owner in
                let x = find (owner_data c) b.traffic.responses some.0 in
                owner_data-found c x.0 x.1 x.2 x.3 lt some.1
          ]
          | inr excl ↦
              let some = some-held s.excl_data (line_holds tables s.state event.DataDirExcl) excl in
              let x = find (excl_data c) b.traffic.responses some.0 in
              excl_data-found c x.0 x.1 x.2 x.3 lt some.1
        ]

    -- the head of a link
    head-found : (c : ℕ) → c < caches → (fs : List Forward) → fs ≡ link b.traffic c → holds_head tables (side tags b c).state (places c fs) ≡ false →
        moving.Found tables b block
    head-found c lt [] e h = absurd (cc)
    head-found c lt (f ∷ fs) e h =
        let l = line-there c lt in
        forward-found (record { 0 = c }) l.0 f l.1 (ap (λ (gs : List Forward). slice_get gs 0) e) (at-line c l.0 (forward_event f.kind) l.1 h)

    -- REQUESTS
    is-gets : (kind : RequestKind) → is_gets kind ≢ 0 → kind ≡ request.GetS
    is-gets request.GetS h = refl
    is-gets request.GetM h = absurd (h refl)
    is-gets request.PutS h = absurd (h refl)
    is-gets (request.PutM value) h = absurd (h refl)

    is-getm : (kind : RequestKind) → is_getm kind ≢ 0 → kind ≡ request.GetM
    is-getm request.GetM h = refl
    is-getm request.GetS h = absurd (h refl)
    is-getm request.PutS h = absurd (h refl)
    is-getm (request.PutM value) h = absurd (h refl)

    is-puts : (kind : RequestKind) → is_puts kind ≢ 0 → kind ≡ request.PutS
    is-puts request.PutS h = refl
    is-puts request.GetS h = absurd (h refl)
    is-puts request.GetM h = absurd (h refl)
    is-puts (request.PutM value) h = absurd (h refl)

    is-putm : (kind : RequestKind) → is_putm kind ≢ 0 → (value : ℕ) × (kind ≡ request.PutM value)
    is-putm (request.PutM value) h = (value, refl)
    is-putm request.GetS h = absurd (h refl)
    is-putm request.GetM h = absurd (h refl)
    is-putm request.PutS h = absurd (h refl)

    abbrev of_kind : RequestKind → CacheId → DirectoryEvent
    of_kind kind cache = request_event b.home.owner b.home.sharers kind cache

    kind-found : (i : ℕ) (r : Request) (kind : RequestKind) → Some r ≡ slice_get b.traffic.requests i → r.kind ≡ kind →
        home_holds tables b.home.state (of_kind kind r.from) ≡ false → moving.Found tables b block
    kind-found i r kind at same h =
        request-found i r at (subst (λ (k : RequestKind). home_holds tables b.home.state (of_kind k r.from) ≡ false) (sym same) h)

    gets-found : (c : ℕ) → (side tags b c).gets ≢ 0 → home_holds tables b.home.state home_event.GetS ≡ false → moving.Found tables b block
    gets-found c some h =
        let x = find (from c is_gets) b.traffic.requests some in
        kind-found x.0 x.1 request.GetS x.2 (is-gets x.1.kind (only-some x.1.from.0 c (is_gets x.1.kind) x.3).1) h

    getm-found : (c : ℕ) → (side tags b c).getm ≢ 0 → home_holds tables b.home.state home_event.GetM ≡ false → moving.Found tables b block
    getm-found c some h =
        let x = find (from c is_getm) b.traffic.requests some in
        kind-found x.0 x.1 request.GetM x.2 (is-getm x.1.kind (only-some x.1.from.0 c (is_getm x.1.kind) x.3).1) h

    puts-found : (c : ℕ) → (side tags b c).puts ≢ 0 → home_holds tables b.home.state (puts_event (side tags b c)) ≡ false → moving.Found tables b block
    puts-found c some h =
        let x = find (from c is_puts) b.traffic.requests some in
        let mine = only-some x.1.from.0 c (is_puts x.1.kind) x.3 in
        kind-found x.0 x.1 request.PutS x.2 (is-puts x.1.kind mine.1)
        (subst (λ (u : Bool). home_holds tables b.home.state (if u then home_event.PutSLast else home_event.PutSNotLast) ≡ false)
        (ap (λ (u : Bool). shares b.home.sharers x.1.from.0 && u) (not-twice (others_from 0 x.1.from.0 b.home.sharers == 0)))
        (subst (λ (n : ℕ). home_holds tables b.home.state (puts_event (side tags b n)) ≡ false) (sym mine.0) h))

    putm-found : (c : ℕ) → (side tags b c).putm ≢ 0 → home_holds tables b.home.state (putm_event (side tags b c)) ≡ false → moving.Found tables b block
    putm-found c some h =
        let x = find (from c is_putm) b.traffic.requests some in
        let mine = only-some x.1.from.0 c (is_putm x.1.kind) x.3 in
        let kind = is-putm x.1.kind mine.1 in
        kind-found x.0 x.1 (request.PutM kind.0) x.2 kind.1
        (subst (λ (u : Bool). home_holds tables b.home.state (if u then home_event.PutMOwner else home_event.PutMNonOwner) ≡ false)
        (same-owner b.home.owner x.1.from) (subst (λ (n : ℕ). home_holds tables b.home.state (putm_event (side tags b n)) ≡ false) (sym mine.0) h))

    requests-found : (c : ℕ) → holds_requests tables b.home.state (side tags b c) ≡ false → moving.Found tables b block
    requests-found c h =
        let s : PairSide = side tags b c in
        elim (and-cases _ _ h) [
          | inl more ↦ elim (and-cases _ _ more) [
            | inl first ↦ elim (and-cases _ _ first) [
              | inl gets ↦ (let some = some-held s.gets _ gets in gets-found c some.0 some.1)
              | inr getm ↦ (let some = some-held s.getm _ getm in getm-found c some.0 some.1)
            ]
            | inr puts ↦ (let some = some-held s.puts _ puts in puts-found c some.0 some.1)
          ]
          | inr putm ↦ (let some = some-held s.putm _ putm in putm-found c some.0 some.1)
        ]

    -- what isn't held can be delivered
    pub side-found : (c : ℕ) → c < caches → holds_side tables b.home.state (side tags b c) ≡ false → moving.Found tables b block
    side-found c lt h =
        elim (and-cases _ _ h) [
          | inl more ↦ elim (and-cases _ _ more) [
            | inl head ↦ head-found c lt (link b.traffic c) refl head
            | inr requests ↦ requests-found c requests
          ]
          | inr datas ↦ data-found c lt datas
        ]
