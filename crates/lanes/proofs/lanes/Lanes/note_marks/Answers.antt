use Rattle.lanes.proofs.Kept.{listed-noted, level-noted, opened-noted}
use Rattle.lanes.proofs.lanes.Lanes.note_marks.Goals as goal

pub invariant_of-self : goal.invariant_of-self
invariant_of-self g c = record {
  level = level-noted _ _ c.self.invariant.level;
  opened = opened-noted _ _ c.self.invariant.opened;
  listed = λ usable. listed-noted _ _ (c.self.invariant.listed usable);
}
