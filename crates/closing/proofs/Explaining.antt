-- What the check looks at makes blame work.
use Rattle.std.proofs.Common.{List, Contains}
use Rattle.tables.specs.Tables.{Tables}
use Rattle.closing.specs.declared.ranked.RankedPair.{RankedPair}
use Rattle.closing.specs.Ranked.{Ranked, Balanced}
use Rattle.closing.specs.Blamed.{Blamed}
use Rattle.closing.specs.inner.Explained.{IsExplained, AreExplained}
use Rattle.closing.proofs.Reading.{contained-at}

pub explained-blamed : (tables : Tables) (list : List RankedPair) → Ranked tables list → Balanced tables list → AreExplained tables list → Blamed tables list
explained-blamed tables list ranks balance all = record {
  ranked = ranks;
  balanced = balance;
  home_data = λ r has held. ((at r has).answered held).home_data;
  done = λ r has. (at r has).done;
  blame = λ r has held. ((at r has).answered held).blame;
}
  where
    at : (r : RankedPair) → Contains list r → IsExplained tables list r.pair
    at r has = let found = contained-at list r has in all found.0 r found.1
