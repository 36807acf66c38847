use Rattle.std.proofs.Common.{sym}
use Rattle.rows.proofs.Words.{flags-length}
use Rattle.rows.proofs.bits.Bits.places.Goals as goal

pub returns : goal.returns
returns c = rw (← c.self.view_is) (sym (flags-length c.self.inside.words.items c.self.inside.places))
