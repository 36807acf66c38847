use Rattle.std.proofs.Common.{None, get_or, ◌≡◌, ◌∙◌, List, Option, ap, sym, ℕ, refl, length, map, arith}
use Rattle.std.proofs.lemmas.Grind.{common_steps}
use Rattle.world.specs.View.{View, states}
use Rattle.world.specs.Keeping.{has_line}
use Rattle.world.proofs.Copying.{Seen, lines-copied, marked-copied, none-copied, seen, states-copied}
use Rattle.world.proofs.Spaces.{keeps-no-other}
use Rattle.std.specs.Option.{option_map}
use Rattle.std.proofs.lemmas.List.{length-map}
use Rattle.world.proofs.worlds.World.try_clone.Goals as goal

items : (c : goal.After-new) → map (option_map seen) c.in_ok-blocks.blocks.items ≡ map (option_map seen) c.self.inside.blocks.items
items c = ap (λ (s : record { items : List (Option Seen); keys : List ℕ }). s.items) c.in_ok-blocks.ensures

opening : (c : goal.After-new) → c.in_ok-opening.opening.items ≡ c.self.inside.opening.items
opening c = c.in_ok-opening.ensures.items ∙ c.as_slice.ensures.value

blocks : (c : goal.After-new) → states c.self.inside.shape.caches c.in_ok-opening.opening.items c.in_ok-blocks.blocks.items
    ≡ states c.self.inside.shape.caches c.self.inside.opening.items c.self.inside.blocks.items
blocks c =
    ap (λ vs. states c.self.inside.shape.caches vs c.in_ok-blocks.blocks.items) (opening c)
    ∙ states-copied c.self.inside.shape.caches c.self.inside.opening.items c.in_ok-blocks.blocks.items c.self.inside.blocks.items (items c)

pub invariant_of-result : goal.invariant_of-result
invariant_of-result c =
    rw (blocks c, opening c, c.in_ok-counts.ensures, c.new.ensures, c.tables.ensures) (record {
      shaped = c.self.invariant.shaped;
      opening = c.self.invariant.opening;
      places =
          sym (length-map c.in_ok-blocks.blocks.items (option_map seen)) ∙ ap length (items c)
          ∙ length-map c.self.inside.blocks.items (option_map seen) ∙ c.self.invariant.places;
      marked = marked-copied c.self.inside.controllers c.in_ok-blocks.blocks.items c.self.inside.blocks.items (items c) c.self.invariant.marked;
      counted = c.self.invariant.counted;
    })

pub returns : goal.returns
returns c = record {
  shape = grind (arith, common_steps);
  tables = grind (arith, common_steps);
  opening = opening c ∙ ap (λ (w : View). w.opening) c.self.view_is;
  state = rw (← c.self.view_is, blocks c) refl;
  tested = grind (arith, common_steps);
  kept = λ block before.
      keeps-no-other c.self.inside.blocks.items c.in_ok-blocks.blocks.items block
      (none-copied c.in_ok-blocks.blocks.items c.self.inside.blocks.items (items c))
      (ap (λ (w : View). get_or w.spaces block None) c.self.view_is ∙ before);
  lines = λ block cache.
      lines-copied c.in_ok-blocks.blocks.items c.self.inside.blocks.items (items c) block cache
      ∙ ap (λ (w : View). has_line (get_or w.spaces block None) cache) c.self.view_is;
}
