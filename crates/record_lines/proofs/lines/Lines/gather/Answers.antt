use Rattle.std.proofs.Common.{◌≡◌, ◌≤◌, ◌<◌, ◌+◌, ◌-◌, ◌++◌, ℕ, List, get_or, length, take, drop, ap, sym, subst, refl}
use Rattle.std.proofs.Common.{arith, rules, length-append}
use Rattle.record_lines.specs.Refused.{HasNoEnd, IsTooLong}
use Rattle.record_lines.specs.Reading.{Gathered, pending}
use Rattle.record_lines.proofs.Streams.{grown, held-length, standing-length, still-open, too-long}
use Rattle.record_lines.proofs.lines.Lines.gather.Goals as goal

-- how many of the bytes that are held stand in front of the end of the line
record Front (held : List ℕ) (count : ℕ) : Type 0 where
  within : count ≤ length held
  lasting : HasNoEnd (take count held)
  end : count < length held → get_or held count 0 ≡ 10

front : (old : Gathered) (held line : List ℕ) (number count : ℕ) → record { line = line; ahead = held; number = number } ≡ old →
    count ≤ length old.ahead → HasNoEnd (take count old.ahead) → (count < length old.ahead → get_or old.ahead count 0 ≡ 10) → Front held count
front old held line number count is within lasting end =
    subst (λ (l : List ℕ). Front l count) (sym (ap (λ (g : Gathered). g.ahead) is)) (record { within = within; lasting = lasting; end = end })

-- the line with its bytes that are held
record Grown (buffer kept : List ℕ) (at end held count : ℕ) : Type 0 where
  few : count ≤ end - at
  is : kept ++ take (held + count) (drop ((at + count) - (held + count)) buffer) ≡
      (kept ++ take held (drop (at - held) buffer)) ++ take count (take (end - at) (drop at buffer))
  none : HasNoEnd (kept ++ take (held + count) (drop ((at + count) - (held + count)) buffer))

grown-by : (buffer kept : List ℕ) (at end held count : ℕ) → end ≤ length buffer → held ≤ at → HasNoEnd (kept ++ take held (drop (at - held) buffer)) →
    Front (take (end - at) (drop at buffer)) count → Grown buffer kept at end held count
grown-by buffer kept at end held count fits behind none stands =
    let few : count ≤ end - at = omega (arith, stands.within, held-length buffer at end fits) in
    let is = grown kept buffer at end held count behind few in
    record { few = few; is = is; none = still-open _ _ _ is none stands.lasting }

pub returns-then-count-most-clause-whole : goal.returns-then-count-most-clause-whole
returns-then-count-most-clause-whole c =
    let inside = c.self.inside in
    let count = c.bytes_of_line-count.result in
    let found = c.bytes_of_line-count.ensures in
    let stands = front c.args.self.now _ _ inside.number count c.self.view_is found.within found.open found.end in
    let standing = take inside.held (drop (inside.at - inside.held) inside.buffer) in
    let held : length standing ≡ inside.held = standing-length inside.buffer inside.at inside.held c.self.invariant.behind (search rules) in
    let long : c.args.most < length (inside.line.items ++ standing) + count =
    omega (arith, length-append inside.line.items standing, held, c.if-count-most.true, c.len.ensures) in (
      refl,
      subst (IsTooLong c.args.most) (ap pending c.self.view_is)
          (too-long c.args.most (inside.line.items ++ standing) (take (inside.end - inside.at) (drop inside.at inside.buffer)) count
          c.self.invariant.no_end stands.lasting stands.within long),
    )
