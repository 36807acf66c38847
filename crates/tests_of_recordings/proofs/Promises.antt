-- What the calls that open a recording and add to it promise of refusals, from their contracts.
use Rattle.std.proofs.Common.{◌≡◌, ◌≢◌, ℕ, Result, Ok, Err, length, refl, ap, arith}
use Rattle.std.specs.Prelude.{◌↔◌, IsErrOf, MatchResult, OnErr}
use Rattle.record.specs.Keeping.{IsNotFull, IsPushFault}
use Rattle.record.specs.View.{RecordingView}
use Rattle.record.specs.declared.recording.PushFault.{PushFault}
use Rattle.record.specs.declared.recording.PushFault.TheVariants as push_fault
use Rattle.world.specs.declared.worlds.OpenFault.{OpenFault}
use Rattle.world.specs.declared.worlds.OpenFault.TheVariants as open_fault

-- what opening a recording answers: one of `n` opening values, where the world has `blocks` blocks
abbrev IsOpening : {A : Type 0} → ℕ → ℕ → Result A OpenFault → Type 0
IsOpening n blocks r = MatchResult r (λ _. n ≡ blocks) (λ refused. (refused ≡ open_fault.OpeningLength) × (n ≢ blocks))

-- it is refused `OpeningLength` exactly where there is another number of values than blocks
pub open-length : {A : Type 0} (n blocks : ℕ) (r : Result A OpenFault) → IsOpening n blocks r → IsErrOf r open_fault.OpeningLength ↔ (n ≢ blocks)
open-length n blocks (Ok recording) opened = (λ e. absurd (cc e), λ other. absurd (other opened))
open-length n blocks (Err refused) opened = (λ e. opened.1, λ other. ap Err opened.0)

-- and never for want of memory
pub open-memory : {A : Type 0} (n blocks : ℕ) (r : Result A OpenFault) → IsOpening n blocks r → ¬ IsErrOf r open_fault.NoMemory
open-memory n blocks (Ok recording) opened = λ e. absurd (cc e)
open-memory n blocks (Err refused) opened = λ e. absurd (cc (e, opened.0))

-- what adding an entry answers
abbrev IsPush : {A : Type 0} → RecordingView → RecordingView → Result A PushFault → Type 0
IsPush old new r = MatchResult r (λ _. IsNotFull old) (λ fault. IsPushFault old fault × (new ≡ old))

-- it is refused `Full` exactly where there are a million entries
pub push-full : {A : Type 0} (old new : RecordingView) (r : Result A PushFault) → IsPush old new r →
    IsErrOf r push_fault.Full ↔ (length old.entries ≡ 1000000)
push-full old new (Ok done) push = (λ e. absurd (cc e), λ full. absurd (omega (arith, push, full)))
push-full old new (Err push_fault.Full) push = (λ e. push.0, λ full. refl)
push-full old new (Err push_fault.NoMemory) push = (λ e. absurd (cc e), λ full. absurd (omega (arith, push.0, full)))

-- and refused it changes nothing
pub push-kept : {A : Type 0} (old new : RecordingView) (r : Result A PushFault) → IsPush old new r → OnErr r (new ≡ old)
push-kept old new (Ok done) push = tt
push-kept old new (Err fault) push = push.1
