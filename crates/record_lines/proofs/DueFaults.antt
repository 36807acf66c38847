-- The fault of a line in the head of a text, where its line is due.
use Rattle.std.proofs.Common.{ℕ, List, codes}
use Rattle.base.specs.Extent.{Extent}
use Rattle.record_lines.specs.Refused.{IsFaultOfLine}
use Rattle.record_lines.specs.declared.due.Due.TheVariants.{ProtocolLine, ShapeLine, SeatsLine, OpeningLine}
use Rattle.record_lines.specs.declared.due.TextHead.{TextHead}
use Rattle.record_lines.specs.declared.fault.ReadKind.{ReadKind}
use Rattle.record_lines.specs.declared.fault.ReadKind.TheVariants.{BadHeader, BadLine, Truncated, CountDiffers, BadOutcome, OverLimit, NoMemory, Device}
use Rattle.record_lines.specs.declared.fault.ReadKind.TheVariants.{UnknownProtocol}
use Rattle.record_lines.specs.Reading.{IsBadCount, IsBadOpening, IsBadProtocol, IsBadShape}

pub protocol-fault : (line : List (List ℕ)) (kind : ReadKind) → IsBadProtocol line kind → IsFaultOfLine ProtocolLine line kind
protocol-fault line OverLimit h = absurd h
protocol-fault line BadHeader h = absurd h
protocol-fault line CountDiffers h = absurd h
protocol-fault line BadOutcome h = absurd h
protocol-fault line Truncated h = absurd h
protocol-fault line NoMemory h = absurd h
protocol-fault line Device h = absurd h
protocol-fault line UnknownProtocol h = h
protocol-fault line BadLine h = record {
  behind_header = λ e. cc;
  other = λ next l. h.0 l.0 l.1;
  not_over = λ no. no;
  known = h.1;
  not_miscounted = λ no. no;
  no_bad_outcome = λ no. no;
}

pub shape-fault : (f : TextHead) (line : List (List ℕ)) (kind : ReadKind) → IsBadShape f.version line kind → IsFaultOfLine (ShapeLine f) line kind
shape-fault f line OverLimit h = h
shape-fault f line BadHeader h = absurd h
shape-fault f line CountDiffers h = absurd h
shape-fault f line BadOutcome h = absurd h
shape-fault f line Truncated h = absurd h
shape-fault f line NoMemory h = absurd h
shape-fault f line Device h = absurd h
shape-fault f line UnknownProtocol h = absurd h
shape-fault f line BadLine h = record {
  behind_header = λ e. cc;
  other = λ next l. h.0 l.0 l.1 l.2;
  not_over = h.1;
  known = λ no. no;
  not_miscounted = λ no. no;
  no_bad_outcome = λ no. no;
}

pub seats-fault : (f : TextHead) (shape : Extent) (line : List (List ℕ)) (kind : ReadKind) → IsBadCount (codes "seats") 64 line kind →
    IsFaultOfLine (SeatsLine f shape) line kind
seats-fault f shape line OverLimit h = h
seats-fault f shape line BadHeader h = absurd h
seats-fault f shape line CountDiffers h = absurd h
seats-fault f shape line BadOutcome h = absurd h
seats-fault f shape line Truncated h = absurd h
seats-fault f shape line NoMemory h = absurd h
seats-fault f shape line Device h = absurd h
seats-fault f shape line UnknownProtocol h = absurd h
seats-fault f shape line BadLine h = record {
  behind_header = λ e. cc;
  other = λ next l. h.0 l.0 l.1 l.2;
  not_over = h.1;
  known = λ no. no;
  not_miscounted = λ no. no;
  no_bad_outcome = λ no. no;
}

pub opening-fault : (f : TextHead) (shape : Extent) (line : List (List ℕ)) (kind : ReadKind) → IsBadOpening shape.blocks line kind →
    IsFaultOfLine (OpeningLine f shape) line kind
opening-fault f shape line OverLimit h = absurd h
opening-fault f shape line BadHeader h = absurd h
opening-fault f shape line CountDiffers h = absurd h
opening-fault f shape line BadOutcome h = absurd h
opening-fault f shape line Truncated h = absurd h
opening-fault f shape line NoMemory h = absurd h
opening-fault f shape line Device h = absurd h
opening-fault f shape line UnknownProtocol h = absurd h
opening-fault f shape line BadLine h = record {
  behind_header = λ e. cc;
  other = λ next l. h l.0 l.1.each l.1.small l.2;
  not_over = λ no. no;
  known = λ no. no;
  not_miscounted = λ no. no;
  no_bad_outcome = λ no. no;
}
