-- What is told of a pair stays told.
use Rattle.std.proofs.Common.{List, Contains}
use Rattle.pairs.specs.declared.steps.Party.TheVariants.{Nobody, First, Second, Third}
use Rattle.pairs.specs.declared.steps.Rule.{Rule}
use Rattle.pairs.specs.declared.steps.Sight.{Sight}
use Rattle.pairs.specs.declared.steps.Sight.TheVariants.{Unmoved, Lost, Spoilt, Seen}
use Rattle.closing.specs.declared.following.Followed.{Followed}
use Rattle.closing.specs.inner.Told.{IsTold}

pub told-still : (told more : List Followed) → ((f : Followed) → Contains told f → Contains more f) → (rule : Rule) (s : Sight) → IsTold told rule s →
    IsTold more rule s
told-still told more kept rule Unmoved h = tt
told-still told more kept rule Lost h = h
told-still told more kept rule (Spoilt Nobody) h = h
told-still told more kept rule (Spoilt First) h = h
told-still told more kept rule (Spoilt Second) h = h
told-still told more kept rule (Spoilt Third) h = tt
told-still told more kept rule (Seen concerned p) h = kept (record { rule = rule; concerned = concerned; after = p }) h
