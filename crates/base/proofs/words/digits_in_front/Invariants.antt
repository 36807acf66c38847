use Rattle.std.proofs.Common.{◌≡◌, ◌≤◌, ◌-◌, length, take}
use Rattle.std.specs.Str.Parse.{AllDigits, digits_value}
use Rattle.base.proofs.words.digits_in_front.Given as goal

abbrev pub invariant-loop-end : goal.invariant-loop-end
invariant-loop-end l = record {
  within : l.end ≤ length l.text;
  few : l.end ≤ 19;
  most : l.most ≤ length l.text;
  bound : l.most ≤ 19;
  digits : AllDigits 10 (take l.end l.text);
  value : l.value ≡ digits_value 10 (take l.end l.text);
}

abbrev pub decreases-loop-end : goal.decreases-loop-end
decreases-loop-end l = length l.text - l.end
