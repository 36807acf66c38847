-- What comes onto the links of the caches that don't act names none of them, but the one that acts.
use Rattle.std.proofs.Common.{◌≡◌, ◌≢◌, ℕ, ◌<◌, List, [], ◌∷◌, ◌++◌, refl, ap, sym, subst, ◌∙◌, inl, inr, Option, Some, None, Bool, true, false, not, ◌&&◌}
use Rattle.std.proofs.Common.{◌==◌}
use Rattle.std.proofs.Common.{if◌then◌else◌, map, length, arith, ◌≤◌, ◌+◌, set}
use Rattle.std.proofs.lemmas.List.{get_or_past, length-set}
use Rattle.std.proofs.lemmas.Bool.{cases_eq, ne_eqb, cases_lt}
use Rattle.base.specs.declared.ids.CacheId.{CacheId}
use Rattle.network.specs.declared.message.Forward.{Forward}
use Rattle.network.specs.declared.message.ForwardKind.{ForwardKind}
use Rattle.network.specs.declared.message.ForwardKind.TheVariants.{Inv, FwdGetS, FwdGetM}
use Rattle.network.specs.declared.message.Message.{Message}
use Rattle.network.specs.declared.message.Message.TheVariants as message
use Rattle.network.specs.Traffic.{Traffic, link, sent, all_sent, forward_sent}
use Rattle.cache_table.specs.declared.actions.CacheAction.{CacheAction}
use Rattle.cache_table.specs.declared.actions.CacheAction.TheVariants as line_action
use Rattle.directory_table.specs.declared.actions.DirectoryAction.{DirectoryAction}
use Rattle.directory_table.specs.declared.actions.DirectoryAction.TheVariants as action
use Rattle.control.specs.declared.home.Home.{Home}
use Rattle.control.specs.LineEffect.{line_message, line_messages}
use Rattle.control.specs.HomeEffect.{home_message, home_messages, home_changed, invalidation, invalidations, owner_message}
use Rattle.machine.proofs.Counts.{link-sent, link-sent_other}
use Rattle.pairs.specs.declared.link.LinkPlace.{LinkPlace}
use Rattle.closing.specs.Closed.{lengthened}

-- these forwards name one cache
abbrev pub AllName : ℕ → List Forward → Type 0
AllName a [] = Unit {0}
AllName a (f ∷ fs) = (f.requestor.0 ≡ a) × AllName a fs

abbrev pub places_of : ℕ → List Forward → List LinkPlace
places_of c fs = map (λ (f : Forward). record { kind = f.kind; own = f.requestor.0 == c }) fs

abbrev pub marks_of : ℕ → List Forward → List Bool
marks_of c fs = map (λ (f : Forward). f.requestor.0 == c) fs

unmarked : (a y c : ℕ) (fs : List Forward) → a ≢ y → AllName a fs → marks_of y fs ≡ lengthened (places_of c fs) []
unmarked a y c [] ne h = refl
unmarked a y c (f ∷ fs) ne h =
    ap (λ (t : Bool). t ∷ marks_of y fs) (ne_eqb f.requestor.0 y (λ e. ne (sym h.0 ∙ e))) ∙ ap (λ (l : List Bool). false ∷ l) (unmarked a y c fs ne h.1)

-- a link that grew by forwards that name another cache has no new marks
pub grown-marks : (a y c : ℕ) (l fs : List Forward) → a ≢ y → AllName a fs → marks_of y (l ++ fs) ≡ lengthened (places_of c (l ++ fs)) (marks_of y l)
grown-marks a y c [] fs ne h = unmarked a y c fs ne h
grown-marks a y c (x ∷ xs) fs ne h = ap (λ (l : List Bool). (x.requestor.0 == y) ∷ l) (grown-marks a y c xs fs ne h)

-- a link grew by forwards that name one cache
pub record Grew (a : ℕ) (old new : List Forward) : Type 0 where
  pub more : List Forward
  pub name : AllName a more
  pub grew : new ≡ old ++ more

append-nil : {X : Type 0} (l : List X) → l ++ [] ≡ l
append-nil [] = refl
append-nil (x ∷ xs) = ap (λ l. x ∷ l) (append-nil xs)

append-append : {X : Type 0} (a b c : List X) → (a ++ b) ++ c ≡ a ++ (b ++ c)
append-append [] b c = refl
append-append (x ∷ xs) b c = ap (λ l. x ∷ l) (append-append xs b c)

all-append : (a : ℕ) (xs ys : List Forward) → AllName a xs → AllName a ys → AllName a (xs ++ ys)
all-append a [] ys h k = k
all-append a (x ∷ xs) ys h k = (h.0, all-append a xs ys h.1 k)

pub not-grown : (a : ℕ) (l new : List Forward) → new ≡ l → Grew a l new
not-grown a l new e = record { more = []; name = tt; grew = e ∙ sym (append-nil l) }

grown-twice : (a : ℕ) (l m n : List Forward) → Grew a l m → Grew a m n → Grew a l n
grown-twice a l m n g h = record {
  more = g.more ++ h.more;
  name = all-append a g.more h.more g.name h.name;
  grew = h.grew ∙ ap (λ (x : List Forward). x ++ h.more) g.grew ∙ append-append l g.more h.more;
}

-- if a message goes onto a link, it names this cache
abbrev pub Names : ℕ → Message → Type 0
Names a (message.Request r) = Unit {0}
Names a (message.Forward to f) = f.requestor.0 ≡ a
Names a (message.Response r) = Unit {0}

abbrev pub EachNames : ℕ → List Message → Type 0
EachNames a [] = Unit {0}
EachNames a (m ∷ ms) = Names a m × EachNames a ms

each-append : (a : ℕ) (xs ys : List Message) → EachNames a xs → EachNames a ys → EachNames a (xs ++ ys)
each-append a [] ys h k = k
each-append a (x ∷ xs) ys h k = (h.0, each-append a xs ys h.1 k)

forward-grew : (a x to : ℕ) (f : Forward) (w : Traffic) → f.requestor.0 ≡ a → to < length w.links → Grew a (link w x) (link (forward_sent to f w) x)
forward-grew a x to f w e there =
    elim (cases_eq x to) [
      | inl same ↦ record {
        more = f ∷ [];
        name = (e, tt);
        grew = ap (λ n. link (forward_sent to f w) n) same ∙ link-sent w to f there ∙ ap (λ n. link w n ++ f ∷ []) (sym same);
      }
      | inr other ↦ not-grown a (link w x) (link (forward_sent to f w) x) (link-sent_other w to x f other)
    ]

message-grew : (a x : ℕ) (m : Message) (w : Traffic) → Names a m → Grew a (link w x) (link (sent m w) x)
message-grew a x (message.Request r) w h = not-grown a (link w x) (link w x) refl
message-grew a x (message.Response r) w h = not-grown a (link w x) (link w x) refl
message-grew a x (message.Forward to f) w h =
    elim (cases_lt to.0 (length w.links)) [
      | inl there ↦ forward-grew a x to.0 f w h there
      | inr past ↦ elim (cases_eq x to.0) [
        | inl same ↦
            let before : link w x ≡ [] = get_or_past w.links x [] (omega (arith, past, same)) in
            let few : length w.links ≤ x = omega (arith, past, same) in
            let after : link (forward_sent to.0 f w) x ≡ [] =
            get_or_past (set w.links to.0 (link w to.0 ++ f ∷ [])) x [] (omega (arith, few, length-set w.links to.0 (link w to.0 ++ f ∷ []))) in
            not-grown a (link w x) (link (forward_sent to.0 f w) x) (after ∙ sym before)
        | inr other ↦ not-grown a (link w x) (link (forward_sent to.0 f w) x) (link-sent_other w to.0 x f other)
      ]
    ]

-- so all messages that name one cache let the links grow by such
pub all_sent-grew : (a x : ℕ) (ms : List Message) (w : Traffic) → EachNames a ms → Grew a (link w x) (link (all_sent ms w) x)
all_sent-grew a x [] w h = not-grown a (link w x) (link w x) refl
all_sent-grew a x (m ∷ ms) w h =
    grown-twice a (link w x) (link (sent m w) x) (link (all_sent ms (sent m w)) x) (message-grew a x m w h.0) (all_sent-grew a x ms (sent m w) h.1)

-- a line sends no forwards
line_message-names : (a : ℕ) (cache : CacheId) (value : ℕ) (to : Option CacheId) (action : CacheAction) → EachNames a (line_message cache value to action)
line_message-names a cache value to line_action.GetS = (tt, tt)
line_message-names a cache value to line_action.GetM = (tt, tt)
line_message-names a cache value to line_action.PutS = (tt, tt)
line_message-names a cache value to line_action.PutM = (tt, tt)
line_message-names a cache value (Some to) line_action.InvAck = (tt, tt)
line_message-names a cache value (Some to) line_action.DataReq = (tt, tt)
line_message-names a cache value None line_action.InvAck = tt
line_message-names a cache value None line_action.DataReq = tt
line_message-names a cache value to line_action.DataDir = (tt, tt)

pub line-names : (a : ℕ) (cache : CacheId) (value : ℕ) (to : Option CacheId) (actions : List CacheAction) →
    EachNames a (line_messages cache value to actions)
line-names a cache value to [] = tt
line-names a cache value to (x ∷ actions) =
    each-append a (line_message cache value to x) (line_messages cache value to actions) (line_message-names a cache value to x)
    (line-names a cache value to actions)

-- a home's forwards name the one whose request it is
inv-names : (to : CacheId) (i : ℕ) (t : Bool) → EachNames to.0 (if t then message.Forward (record { 0 = i }) (record { kind = Inv; requestor = to }) ∷ []
    else [])
inv-names to i true = (refl, tt)
inv-names to i false = tt

invalidations-names : (to : CacheId) (i : ℕ) (flags : List Bool) → EachNames to.0 (invalidations to i flags)
invalidations-names to i [] = tt
invalidations-names to i (flag ∷ flags) =
    each-append to.0 (invalidation to (record { 0 = i }) flag) (invalidations to (i + 1) flags) (inv-names to i (flag && not (i == to.0)))
    (invalidations-names to (i + 1) flags)

owner-names : (o : Option CacheId) (kind : ForwardKind) (to : CacheId) → EachNames to.0 (owner_message o kind to)
owner-names None kind to = tt
owner-names (Some o) kind to = (refl, tt)

home_message-names : (to : CacheId) (x : DirectoryAction) (home : Home) → EachNames to.0 (home_message (Some to) x home)
home_message-names to action.DataReq home = (tt, tt)
home_message-names to action.DataAcks home = (tt, tt)
home_message-names to action.DataExcl home = (tt, tt)
home_message-names to action.InvSharers home = invalidations-names to 0 home.sharers
home_message-names to action.FwdGetS home = owner-names home.owner FwdGetS to
home_message-names to action.FwdGetM home = owner-names home.owner FwdGetM to
home_message-names to action.PutAck home = (refl, tt)
home_message-names to action.AddReq home = tt
home_message-names to action.AddOwner home = tt
home_message-names to action.RemoveReq home = tt
home_message-names to action.ClearSharers home = tt
home_message-names to action.ClearOwner home = tt
home_message-names to action.SetOwner home = tt
home_message-names to action.CopyData home = tt

pub home-names : (to : CacheId) (value : Option ℕ) (actions : List DirectoryAction) (home : Home) →
    EachNames to.0 (home_messages (Some to) value actions home)
home-names to value [] home = tt
home-names to value (x ∷ actions) home =
    each-append to.0 (home_message (Some to) x home) (home_messages (Some to) value actions (home_changed (Some to) value x home))
    (home_message-names to x home) (home-names to value actions (home_changed (Some to) value x home))

-- where a link grew by what names the actor, none of the others is named anew
pub grown-names : (a y c : ℕ) (old new : List Forward) → a ≢ y → Grew a old new → marks_of y new ≡ lengthened (places_of c new) (marks_of y old)
grown-names a y c old new ne g =
    subst (λ (l : List Forward). marks_of y l ≡ lengthened (places_of c l) (marks_of y old)) (sym g.grew) (grown-marks a y c old g.more ne g.name)
