use Rattle.std.proofs.Common.{◌≡◌, ◌≤◌, ◌+◌, ◌-◌, ◌++◌, [], ℕ, List, length, take, drop, ap, sym, subst, ◌∙◌, refl}
use Rattle.std.proofs.Common.{◌∷◌, arith, rules, length-append}
use Rattle.std.proofs.lemmas.List.{append-nil, length-take}
use Rattle.record_lines.specs.Refused.{HasNoEnd}
use Rattle.record_lines.specs.Reading.{Gathered}
use Rattle.record_lines.proofs.Streams.{grown, held-behind, held-length, standing-length, still-open}
use Rattle.record_lines.proofs.lines.Lines.add.Goals as goal

-- how many of the bytes that are held are added
record Front (held : List ℕ) (count : ℕ) : Type 0 where
  within : count ≤ length held
  lasting : HasNoEnd (take count held)

front : (old : Gathered) (held line : List ℕ) (number count : ℕ) → record { line = line; ahead = held; number = number } ≡ old →
    count ≤ length old.ahead → HasNoEnd (take count old.ahead) → Front held count
front old held line number count is within lasting =
    subst (λ (l : List ℕ). Front l count) (sym (ap (λ (g : Gathered). g.ahead) is)) (record { within = within; lasting = lasting })

-- the line with its bytes that are held
record Grown (buffer kept : List ℕ) (at end held count : ℕ) : Type 0 where
  few : count ≤ end - at
  is : kept ++ take (held + count) (drop ((at + count) - (held + count)) buffer) ≡
      (kept ++ take held (drop (at - held) buffer)) ++ take count (take (end - at) (drop at buffer))
  none : HasNoEnd (kept ++ take (held + count) (drop ((at + count) - (held + count)) buffer))

grown-by : (buffer kept : List ℕ) (at end held count : ℕ) → end ≤ length buffer → held ≤ at → HasNoEnd (kept ++ take held (drop (at - held) buffer)) →
    Front (take (end - at) (drop at buffer)) count → Grown buffer kept at end held count
grown-by buffer kept at end held count fits behind none stands =
    let few : count ≤ end - at = omega (arith, stands.within, held-length buffer at end fits) in
    let is = grown kept buffer at end held count behind few in
    record { few = few; is = is; none = still-open _ _ _ is none stands.lasting }

none-of : (xs : List ℕ) → length xs ≡ 0 → xs ≡ []
none-of [] e = refl
none-of (x ∷ xs) e = absurd (omega (arith, e))

pub invariant_of-self : goal.invariant_of-self
invariant_of-self c =
    let inside = c.self.inside in
    let count = c.args.count in
    let stands = front c.args.self.now _ _ inside.number count c.self.view_is c.requires.few c.requires.open in
    let more =
    grown-by inside.buffer inside.line.items inside.at inside.end inside.held count (search rules) c.self.invariant.behind c.self.invariant.no_end stands in
    let standing = take inside.held (drop (inside.at - inside.held) inside.buffer) in
    let held : length standing ≡ inside.held = standing-length inside.buffer inside.at inside.held c.self.invariant.behind (search rules) in
    let all = ap (λ (g : Gathered). length g.line) c.self.view_is in
    record {
      in_order = omega (arith, more.few, c.self.invariant.in_order);
      within = c.self.invariant.within;
      behind = omega (arith, c.self.invariant.behind);
      apart = λ low. none-of inside.line.items (search rules);
      whole = λ low. c.if-self.true;
      no_end = more.none;
      short = omega (arith, all, length-append inside.line.items standing, held, c.requires.short);
      room = c.self.invariant.room;
    }

pub returns-then-self-clause-line : goal.returns-then-self-clause-line
returns-then-self-clause-line c =
    let inside = c.self.inside in
    let count = c.args.count in
    let stands = front c.args.self.now _ _ inside.number count c.self.view_is c.requires.few c.requires.open in
    let more =
    grown-by inside.buffer inside.line.items inside.at inside.end inside.held count (search rules) c.self.invariant.behind c.self.invariant.no_end stands in
    more.is ∙ ap (λ (g : Gathered). g.line ++ take count g.ahead) c.self.view_is

pub returns-then-self-clause-ahead : goal.returns-then-self-clause-ahead
returns-then-self-clause-ahead c =
    let inside = c.self.inside in
    let count = c.args.count in
    let stands = front c.args.self.now _ _ inside.number count c.self.view_is c.requires.few c.requires.open in
    let more =
    grown-by inside.buffer inside.line.items inside.at inside.end inside.held count (search rules) c.self.invariant.behind c.self.invariant.no_end stands in
    sym (held-behind inside.buffer inside.at inside.end count more.few) ∙ ap (λ (g : Gathered). drop count g.ahead) c.self.view_is

-- the bytes that were added to the line that is kept apart
apart : (buffer kept new : List ℕ) (at end held count : ℕ) → held ≤ at →
    new ≡ kept ++ take ((at + count) - ((at + count) - (held + count))) (drop ((at + count) - (held + count)) buffer) →
    Grown buffer kept at end held count → new ++ [] ≡ (kept ++ take held (drop (at - held) buffer)) ++ take count (take (end - at) (drop at buffer))
apart buffer kept new at end held count behind is more =
    let n : (at + count) - ((at + count) - (held + count)) ≡ held + count = omega (arith, behind) in
    append-nil new ∙ is ∙ ap (λ k. kept ++ take k (drop ((at + count) - (held + count)) buffer)) n ∙ more.is

pub invariant_of-self-2 : goal.invariant_of-self-2
invariant_of-self-2 c =
    let inside = c.self.inside in
    let count = c.args.count in
    let stands = front c.args.self.now _ _ inside.number count c.self.view_is c.requires.few c.requires.open in
    let more =
    grown-by inside.buffer inside.line.items inside.at inside.end inside.held count (search rules) c.self.invariant.behind c.self.invariant.no_end stands in
    let is = apart inside.buffer inside.line.items _ inside.at inside.end inside.held count c.self.invariant.behind c.append.ensures.line more in
    let standing = take inside.held (drop (inside.at - inside.held) inside.buffer) in
    let held : length standing ≡ inside.held = standing-length inside.buffer inside.at inside.held c.self.invariant.behind (search rules) in
    let all = ap (λ (g : Gathered). length g.line) c.self.view_is in
    record {
      in_order = omega (arith, more.few, c.self.invariant.in_order);
      within = c.self.invariant.within;
      behind = omega arith;
      apart = λ low. absurd (omega (arith, low));
      whole = λ low. absurd (omega (arith, low));
      no_end = still-open _ _ _ is c.self.invariant.no_end stands.lasting;
      short =
          omega (
            arith,
            ap length is,
            length-append c.append.new.line.items [],
            length-append (inside.line.items ++ standing) (take count (take (inside.end - inside.at) (drop inside.at inside.buffer))),
            length-append inside.line.items standing,
            length-take {A = ℕ} count (take (inside.end - inside.at) (drop inside.at inside.buffer)),
            held,
            all,
            c.requires.short,
          );
      room = omega (arith, c.self.invariant.room, c.append.ensures.room);
    }

pub returns-clause-line : goal.returns-clause-line
returns-clause-line c =
    let inside = c.self.inside in
    let count = c.args.count in
    let stands = front c.args.self.now _ _ inside.number count c.self.view_is c.requires.few c.requires.open in
    let more =
    grown-by inside.buffer inside.line.items inside.at inside.end inside.held count (search rules) c.self.invariant.behind c.self.invariant.no_end stands in
    apart inside.buffer inside.line.items _ inside.at inside.end inside.held count c.self.invariant.behind c.append.ensures.line more
    ∙ ap (λ (g : Gathered). g.line ++ take count g.ahead) c.self.view_is

pub returns-clause-ahead : goal.returns-clause-ahead
returns-clause-ahead c =
    let inside = c.self.inside in
    let count = c.args.count in
    let stands = front c.args.self.now _ _ inside.number count c.self.view_is c.requires.few c.requires.open in
    let more =
    grown-by inside.buffer inside.line.items inside.at inside.end inside.held count (search rules) c.self.invariant.behind c.self.invariant.no_end stands in
    ap (λ (b : List ℕ). take (inside.end - (inside.at + count)) (drop (inside.at + count) b)) c.append.ensures.buffer
    ∙ sym (held-behind inside.buffer inside.at inside.end count more.few) ∙ ap (λ (g : Gathered). drop count g.ahead) c.self.view_is
