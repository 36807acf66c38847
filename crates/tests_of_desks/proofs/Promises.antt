-- What the calls of a desk promise, each promise by itself, from their contracts.
use Rattle.std.proofs.Common.{◌≡◌, ℕ, ◌<◌, ◌≤◌, true, List, length, Option, Some, None, Result, Ok, Err, slice_index_or, refl, sym, ap, ◌∙◌, subst, arith}
use Rattle.std.specs.Prelude.{◌↔◌, IfErr, IfOk, IfSome, IsErrAnd, IsErrOf, IsSome, MatchOption, MatchResult}
use Rattle.trials.specs.declared.verdict.TrialResult.{TrialResult}
use Rattle.trials.specs.Terms.{Plan}
use Rattle.desk.specs.declared.faults.CloseFault.{CloseFault}
use Rattle.desk.specs.declared.faults.CloseFault.TheVariants as close_fault
use Rattle.desk.specs.declared.faults.DeskFault.{DeskFault}
use Rattle.desk.specs.declared.faults.DeskFault.TheVariants as desk_fault
use Rattle.desk.specs.declared.faults.PostFault.{PostFault}
use Rattle.desk.specs.declared.faults.PostFault.TheVariants as post_fault
use Rattle.desk.specs.Calls.{Claims, FindsResult, FindsNoResult, IsPostFault, Posts}
use Rattle.desk.specs.Closing.{Closes, IsCloseFault}
use Rattle.desk.specs.Opening.{IsDeskFault, OpensDesk}
use Rattle.desk.specs.Seats.{ClaimsInOrder, DeskId, DeskSeatView, DeskView, HasClaimed, HasPosted, Knows, numbers_of, told_no_more, with_known}
use Rattle.desk.specs.Working.{Stops, WorksOff}
use Rattle.desk.proofs.Seating.{told_again}

-- ---- a desk is made

many-only : (n seats : ℕ) (f : DeskFault) → IsDeskFault n seats f → 1000000 < n → f ≡ desk_fault.TooMany
many-only n seats desk_fault.TooMany h low = refl
many-only n seats desk_fault.NoSeats h low = absurd (omega (arith, h.0, low))
many-only n seats desk_fault.TooManySeats h low = absurd (omega (arith, h.0, low))
many-only n seats desk_fault.NoMemory h low = absurd (omega (arith, h.few, low))

none-only : (n seats : ℕ) (f : DeskFault) → IsDeskFault n seats f → n ≤ 1000000 → seats ≡ 0 → f ≡ desk_fault.NoSeats
none-only n seats desk_fault.TooMany h few none = absurd (omega (arith, h, few))
none-only n seats desk_fault.NoSeats h few none = refl
none-only n seats desk_fault.TooManySeats h few none = absurd (omega (arith, h.1, none))
none-only n seats desk_fault.NoMemory h few none = absurd (omega (arith, h.some, none))

seats-only : (n seats : ℕ) (f : DeskFault) → IsDeskFault n seats f → n ≤ 1000000 → 64 < seats → f ≡ desk_fault.TooManySeats
seats-only n seats desk_fault.TooMany h few many = absurd (omega (arith, h, few))
seats-only n seats desk_fault.NoSeats h few many = absurd (omega (arith, h.1, many))
seats-only n seats desk_fault.TooManySeats h few many = refl
seats-only n seats desk_fault.NoMemory h few many = absurd (omega (arith, h.seats_few, many))

-- what making a desk answers
abbrev IsMade : {A : Type 0} → ℕ → ℕ → (A → DeskView) → (A → List DeskSeatView) → Result A DeskFault → Type 0
IsMade n seats desk row r = IfOk r (λ made. OpensDesk n seats (desk made) (row made)) × IfErr r (IsDeskFault n seats)

-- it is refused `TooMany` exactly where there are over 1,000,000 numbers
pub too-many : {A : Type 0} (n seats : ℕ) (desk : A → DeskView) (row : A → List DeskSeatView) (r : Result A DeskFault) → IsMade n seats desk row r →
    IsErrOf r desk_fault.TooMany ↔ (1000000 < n)
too-many n seats desk row (Ok made) opens = (λ e. absurd (cc e), λ low. absurd (omega (arith, low, opens.0.within.few)))
too-many n seats desk row (Err f) refused = (
  λ e. let is : f ≡ desk_fault.TooMany = cc e in subst (IsDeskFault n seats) is refused.1,
  λ low. ap Err (many-only n seats f refused.1 low),
)

-- else `NoSeats` exactly where there is no seat
pub no-seats : {A : Type 0} (n seats : ℕ) (desk : A → DeskView) (row : A → List DeskSeatView) (r : Result A DeskFault) → IsMade n seats desk row r →
    IsErrOf r desk_fault.NoSeats ↔ ((n ≤ 1000000) × (seats ≡ 0))
no-seats n seats desk row (Ok made) opens = (λ e. absurd (cc e), λ none. absurd (omega (arith, none.1, opens.0.within.some)))
no-seats n seats desk row (Err f) refused = (
  λ e. let is : f ≡ desk_fault.NoSeats = cc e in subst (IsDeskFault n seats) is refused.1,
  λ none. ap Err (none-only n seats f refused.1 none.0 none.1),
)

-- else `TooManySeats` exactly where there are over 64
pub too-many-seats : {A : Type 0} (n seats : ℕ) (desk : A → DeskView) (row : A → List DeskSeatView) (r : Result A DeskFault) → IsMade n seats desk row r →
    IsErrOf r desk_fault.TooManySeats ↔ ((n ≤ 1000000) × (64 < seats))
too-many-seats n seats desk row (Ok made) opens = (λ e. absurd (cc e), λ many. absurd (omega (arith, many.1, opens.0.within.seats_few)))
too-many-seats n seats desk row (Err f) refused = (
  λ e. let is : f ≡ desk_fault.TooManySeats = cc e in subst (IsDeskFault n seats) is refused.1,
  λ many. ap Err (seats-only n seats f refused.1 many.0 many.1),
)

-- ---- a claim

-- the number is one of the desk's
pub claim-within : (r : Option ℕ) (desk : DeskId) (old new : DeskSeatView) → old.desk ≡ desk →
    MatchOption r (new ≡ told_no_more old) (λ number. Claims old number new) → IfSome r (λ number. number < numbers_of desk)
claim-within None desk old new its claim = tt
claim-within (Some number) desk old new its claim = subst (λ d. number < numbers_of d) its claim.within

-- a seat that was told that there are no more is told so again, and nothing changes
pub claim-told : (r : Option ℕ) (old new : DeskSeatView) → MatchOption r (new ≡ told_no_more old) (λ number. Claims old number new) →
    old.told ≡ true → (r ≡ None) × (new ≡ old)
claim-told None old new claim told = (refl, claim ∙ told_again old told)
claim-told (Some number) old new claim told = absurd (cc (claim.on, told))

-- the seat stays at its desk
pub claim-same : (r : Option ℕ) (old new : DeskSeatView) → MatchOption r (new ≡ told_no_more old) (λ number. Claims old number new) → new.desk ≡ old.desk
claim-same None old new claim = ap (λ s. s.desk) claim
claim-same (Some number) old new claim = ap (λ s. s.desk) claim.claims

-- what the seat has claimed is of the desk
pub claim-below : (r : Option ℕ) (desk : DeskId) (old new : DeskSeatView) → old.desk ≡ desk →
    MatchOption r (new ≡ told_no_more old) (λ number. Claims old number new) → ClaimsInOrder new →
    (number : ℕ) → HasClaimed new number → number < numbers_of desk
claim-below r desk old new its claim order number claimed =
    subst (λ d. number < numbers_of d) (claim-same r old new claim ∙ its) (order.below number claimed)

-- ---- a post

yours : (seat : DeskSeatView) (number : ℕ) (f : PostFault) → IsPostFault seat number f → ¬ HasClaimed seat number → f ≡ post_fault.NotYours
yours seat number post_fault.NotYours h isnt = refl
yours seat number post_fault.Already h isnt = absurd (isnt h.0)
yours seat number post_fault.NoMemory h isnt = absurd (isnt h.0)

once : (seat : DeskSeatView) (number : ℕ) (f : PostFault) → IsPostFault seat number f → HasClaimed seat number → HasPosted seat number →
    f ≡ post_fault.Already
once seat number post_fault.NotYours h mine posted = absurd (h mine)
once seat number post_fault.Already h mine posted = refl
once seat number post_fault.NoMemory h mine posted = absurd (h.1 posted)

memory : (seat : DeskSeatView) (number : ℕ) (f : PostFault) → IsPostFault seat number f → HasClaimed seat number → ¬ HasPosted seat number →
    f ≡ post_fault.NoMemory
memory seat number post_fault.NotYours h mine isnt = absurd (h mine)
memory seat number post_fault.Already h mine isnt = absurd (isnt h.1)
memory seat number post_fault.NoMemory h mine isnt = refl

-- what a post answers
abbrev IsPost : {A : Type 0} → DeskSeatView → ℕ → TrialResult → DeskSeatView → Result A (PostFault × TrialResult) → Type 0
IsPost old number made new r = MatchResult r (λ _. Posts old number made new)
    (λ refused. IsPostFault old number refused.0 × (refused.1 ≡ made) × (new ≡ old))

pub post-not-yours : {A : Type 0} (old : DeskSeatView) (number : ℕ) (made : TrialResult) (new : DeskSeatView) (r : Result A (PostFault × TrialResult)) →
    IsPost old number made new r → ¬ HasClaimed old number → IsErrAnd r (λ refused. refused.0 ≡ post_fault.NotYours)
post-not-yours old number made new (Ok done) post isnt = absurd (isnt post.could.0)
post-not-yours old number made new (Err refused) post isnt = yours old number refused.0 post.0 isnt

pub post-already : {A : Type 0} (old : DeskSeatView) (number : ℕ) (made : TrialResult) (new : DeskSeatView) (r : Result A (PostFault × TrialResult)) →
    IsPost old number made new r → HasClaimed old number → HasPosted old number → IsErrAnd r (λ refused. refused.0 ≡ post_fault.Already)
post-already old number made new (Ok done) post mine posted = absurd (post.could.1 posted)
post-already old number made new (Err refused) post mine posted = once old number refused.0 post.0 mine posted

pub post-else-memory : {A : Type 0} (old : DeskSeatView) (number : ℕ) (made : TrialResult) (new : DeskSeatView) (r : Result A (PostFault × TrialResult)) →
    IsPost old number made new r → HasClaimed old number → ¬ HasPosted old number → IfErr r (λ refused. refused.0 ≡ post_fault.NoMemory)
post-else-memory old number made new (Ok done) post mine isnt = tt
post-else-memory old number made new (Err refused) post mine isnt = memory old number refused.0 post.0 mine isnt

pub post-same : {A : Type 0} (old : DeskSeatView) (number : ℕ) (made : TrialResult) (new : DeskSeatView) (r : Result A (PostFault × TrialResult)) →
    IsPost old number made new r → new.desk ≡ old.desk
post-same old number made new (Ok done) post = ap (λ s. s.desk) post.posts
post-same old number made new (Err refused) post = ap (λ s. s.desk) post.2

-- ---- a look

-- what a look answers
abbrev IsLook : Plan → DeskSeatView → ℕ → DeskSeatView → Option TrialResult → Type 0
IsLook plan old number new r = MatchOption r (FindsNoResult old number new) (λ found. FindsResult plan old number found new)

-- a seat that has posted the number finds it
pub look-own : (plan : Plan) (old : DeskSeatView) (number : ℕ) (new : DeskSeatView) (r : Option TrialResult) → IsLook plan old number new r →
    HasPosted old number → IsSome r
look-own plan old number new None look posted = absurd (look.unposted posted)
look-own plan old number new (Some found) look posted = refl

-- what it knew it finds again
pub look-again : (plan : Plan) (old : DeskSeatView) (number : ℕ) (new : DeskSeatView) (r : Option TrialResult) → IsLook plan old number new r →
    (found : TrialResult) → Knows old number found → r ≡ Some found
look-again plan old number new None look found known = absurd (look.before found known)
look-again plan old number new (Some result) look found known = ap Some (sym (look.again found known))

-- nothing else changes
pub look-others : (plan : Plan) (old : DeskSeatView) (number : ℕ) (new : DeskSeatView) (r : Option TrialResult) → IsLook plan old number new r →
    new ≡ with_known old number (slice_index_or new.known number None)
look-others plan old number new None look = look.others
look-others plan old number new (Some result) look = look.finds ∙ ap (λ o. with_known old number o) (sym look.known.0)

pub look-same : (plan : Plan) (old : DeskSeatView) (number : ℕ) (new : DeskSeatView) (r : Option TrialResult) → IsLook plan old number new r →
    new.desk ≡ old.desk
look-same plan old number new r look = ap (λ s. s.desk) (look-others plan old number new r look)

-- ---- working

-- the seat stays at its desk
pub work-same : {E : Type 0} (old new : DeskSeatView) (r : Result ℕ E) → MatchResult r (WorksOff old new) (λ _. Stops old new) → new.desk ≡ old.desk
work-same old new (Ok count) work = work.works.desk
work-same old new (Err refused) work = ap (λ s. s.desk) work.4 ∙ work.3.desk

-- ---- the close

missing : (desk : DeskView) (there : ℕ) (f : CloseFault) → IsCloseFault desk there f → there < desk.seats → f ≡ close_fault.SeatMissing
missing desk there close_fault.SeatMissing h low = refl
missing desk there close_fault.NoMemory h low = absurd (omega (arith, h, low))

complete : (desk : DeskView) (there : ℕ) (f : CloseFault) → IsCloseFault desk there f → desk.seats ≤ there → f ≡ close_fault.NoMemory
complete desk there close_fault.SeatMissing h low = absurd (omega (arith, h, low))
complete desk there close_fault.NoMemory h low = refl

-- it is refused `SeatMissing` where fewer seats are handed in than the desk has
pub close-missing : {A E : Type 0} (plan : Plan) (desk : DeskView) (row : List DeskSeatView) (places : A → List (Option TrialResult)) (fault : E → CloseFault)
    (r : Result A E) → IfOk r (λ closed. Closes plan desk row (places closed)) → IfErr r (λ refused. IsCloseFault desk (length row) (fault refused)) →
    length row < desk.seats → IsErrAnd r (λ refused. fault refused ≡ close_fault.SeatMissing)
close-missing plan desk row places fault (Ok closed) closes refused low = absurd (omega (arith, closes.there, low))
close-missing plan desk row places fault (Err e) closes refused low = missing desk (length row) (fault e) refused low

-- and else for want of memory alone
pub close-else-memory : {A E : Type 0} (desk : DeskView) (there : ℕ) (fault : E → CloseFault) (r : Result A E) →
    IfErr r (λ refused. IsCloseFault desk there (fault refused)) → desk.seats ≤ there → IfErr r (λ refused. fault refused ≡ close_fault.NoMemory)
close-else-memory desk there fault (Ok places) refused all = tt
close-else-memory desk there fault (Err e) refused all = complete desk there (fault e) refused all
