-- A moment on its way stays one under the same terms.
use Rattle.std.proofs.Common.{◌≡◌, ◌∙◌, refl, subst, sym}
use Rattle.moment.specs.Seen.{IsLike, Seen}

pub like-itself : (m : Seen) → IsLike m m
like-itself m = record { shape = refl; tables = refl; opening = refl; scenario = refl }

pub like-both : (a b c : Seen) → IsLike a b → IsLike b c → IsLike a c
like-both a b c h k = record { shape = k.shape ∙ h.shape; tables = k.tables ∙ h.tables; opening = k.opening ∙ h.opening; scenario = k.scenario ∙ h.scenario }

pub like-same : (a b c : Seen) → c ≡ b → IsLike a b → IsLike a c
like-same a b c is h = subst (IsLike a) (sym is) h
