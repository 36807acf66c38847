use Rattle.std.proofs.Common.{◌≡◌, ℕ, List, [], ◌∷◌, ◌++◌, codes, ap, ◌∙◌, append_assoc, append-nil, arith, refl, rules}
use Rattle.std.proofs.lemmas.Grind.{common_steps}
use Rattle.std.specs.Fmt.{decimal}
use Rattle.base.specs.declared.controller.protocol.Protocol.{Protocol}
use Rattle.base.specs.Protocols.{protocol_name}
use Rattle.record.specs.inner.Pieces.{head_piece}
use Rattle.record.proofs.writing.head.Goals as goal

-- the parts of the head, one behind the other, with an end of a line and a blank
put : (l b m two p sh se op n c k s : List ℕ) →
    (((((((m ++ ((b ++ two) ++ ((l ++ p) ++ b))) ++ n) ++ (l ++ sh)) ++ (b ++ c)) ++ (b ++ k)) ++ (l ++ se)) ++ (b ++ s)) ++ (l ++ op)
    ≡ (((((m ++ ((b ++ two) ++ [])) ++ l) ++ ((p ++ ((b ++ n) ++ [])) ++ l)) ++ ((sh ++ ((b ++ c) ++ ((b ++ k) ++ []))) ++ l)) ++
    ((se ++ ((b ++ s) ++ [])) ++ l)) ++ op
put l b m two p sh se op n c k s = simp (append_assoc, append-nil)

parts : (p : Protocol) (c k s : ℕ) →
    (((((codes "msi-recording" ++ (((32 ∷ []) ++ codes "2") ++ [])) ++ 10 ∷ []) ++ ((codes "protocol" ++ (((32 ∷ []) ++ protocol_name p) ++ [])) ++ 10 ∷ [])) ++
    ((codes "shape" ++ (((32 ∷ []) ++ decimal c) ++ (((32 ∷ []) ++ decimal k) ++ []))) ++ 10 ∷ [])) ++
    ((codes "seats" ++ (((32 ∷ []) ++ decimal s) ++ [])) ++ 10 ∷ [])) ++ codes "opening"
    ≡ head_piece p (record { caches = c; blocks = k }) s
parts p c k s = refl

pub returns : goal.returns
returns c =
    let name : c.as_bytes.result.now ≡ protocol_name c.args.protocol = search rules in
    let caches : c.from.result ≡ c.args.shape.caches = search rules in
    let blocks : c.from-2.result ≡ c.args.shape.blocks = search rules in
    let seats : c.from-3.result ≡ c.args.seats = search rules in
    let first : c.push.new.self ≡ codes "msi-recording 2\nprotocol " = search rules in
    let one = c.push-2.ensures.text ∙ ap (λ l. l ++ c.as_bytes.result.now) first ∙ ap (λ l. codes "msi-recording 2\nprotocol " ++ l) name in
    let two = c.push-3.ensures.text ∙ ap (λ l. l ++ codes "\nshape") one in
    let three = c.push_number.ensures.text ∙ ap (λ l. l ++ (32 ∷ decimal c.from.result)) two in
    let four = c.push_number-2.ensures.text ∙ ap (λ l. l ++ (32 ∷ decimal c.from-2.result)) three in
    let five = c.push-4.ensures.text ∙ ap (λ l. l ++ codes "\nseats") four in
    let six = c.push_number-3.ensures.text ∙ ap (λ l. l ++ (32 ∷ decimal c.from-3.result)) five in
    let seven = c.push-5.ensures.text ∙ ap (λ l. l ++ codes "\nopening") six in
    record {
      is =
          seven
          ∙ put (10 ∷ []) (32 ∷ []) (codes "msi-recording") (codes "2") (codes "protocol") (codes "shape") (codes "seats") (codes "opening")
          (protocol_name c.args.protocol)
          (decimal c.from.result) (decimal c.from-2.result) (decimal c.from-3.result)
          ∙ parts c.args.protocol c.from.result c.from-2.result c.from-3.result
          ∙ ap (λ n. piece n c.from-2.result c.from-3.result) caches
          ∙ ap (λ n. piece c.args.shape.caches n c.from-3.result) blocks
          ∙ ap (λ n. piece c.args.shape.caches c.args.shape.blocks n) seats;
      short = grind (arith, common_steps);
    }
  where
    piece : ℕ → ℕ → ℕ → List ℕ
    piece caches blocks seats = head_piece c.args.protocol (record { caches = caches; blocks = blocks }) seats
