-- All pairs of an opened block are the same.
use Rattle.std.proofs.Common.{◌≡◌, ℕ, ◌+◌, List, [], refl, ap, ◌∙◌, zero, suc, arith, true, false, not, ◌==◌, map, replicate, pos, ◌+ℤ◌}
use Rattle.std.proofs.lemmas.List.{length-replicate}
use Rattle.network.specs.declared.message.Forward.{Forward}
use Rattle.control.specs.declared.line.Line.{Line}
use Rattle.control.specs.LineEffect.{opened_line}
use Rattle.control.specs.Sharing.{shares, others_from}
use Rattle.machine.specs.Block.{IsBlockAmong, opened_block}
use Rattle.machine.proofs.Counts.{total}
use Rattle.machine.proofs.Opened.{idle-line, linkless}
use Rattle.machine.proofs.Seen.{names, line_of, late_of, is_fwd_gets, is_fwd_getm, is_inv}
use Rattle.pairs.specs.declared.side.Lag.TheVariants.{Level}
use Rattle.pairs.specs.declared.side.PairSide.{PairSide}
use Rattle.pairs.specs.declared.side.Owned.TheVariants.{ByNobody}
use Rattle.pairs.specs.Pairs.{opened_side, opened_pair, is_few_side}
use Rattle.closing.proofs.Alpha.{Tags, alpha, side, names_on, owed_to, waiting_of, Faithful}

abbrev pub opened_tags : Tags
opened_tags = record { line = λ c. false; data_to = λ c. false; putm = λ c. false; home_data = false; memory = true; lag = λ c. Level }

no-messages : (f : Forward → ℕ) (n : ℕ) → total f (replicate n []) ≡ 0
no-messages f zero = refl
no-messages f (suc n) = omega (arith, no-messages f n)

no-others : (i c n : ℕ) → others_from i c (replicate n false) ≡ 0
no-others i c zero = refl
no-others i c (suc n) = omega (arith, no-others (i + 1) c n)

unshared : (n c : ℕ) → shares (replicate n false) c ≡ false
unshared zero c = refl
unshared (suc n) zero = refl
unshared (suc n) (suc c) = unshared n c

nothing-owed : (n value c : ℕ) → owed_to (opened_block n value) c ≡ 0
nothing-owed n value c = omega (arith, no-messages (names c is_inv) n)

opened-side : (n value c : ℕ) → side opened_tags (opened_block n value) c ≡ opened_side
opened-side n value c = λ i. record {
  state = ap (λ (l : Line). l.state) (idle-line n c) i;
  waits = ap (λ (l : Line). waiting_of l.pending) (idle-line n c) i;
  fresh = false;
  gets = 0;
  getm = 0;
  puts = 0;
  putm = 0;
  fresh_putm = true;
  dir_data = 0;
  owner_data = 0;
  excl_data = 0;
  fresh_data = true;
  low = ap (λ (l : Line). late_of l.acks == 0) (idle-line n c) i;
  owed = ap (λ k. not (k == 0)) (nothing-owed n value c) i;
  lag = Level;
  fwd_gets = no-messages (names c is_fwd_gets) n i;
  fwd_getm = no-messages (names c is_fwd_getm) n i;
  link = ap (λ (l : List Forward). map (λ (f : Forward). record { kind = f.kind; own = f.requestor.0 == c }) l) (linkless n c) i;
  shares = unshared n c i;
  others = ap (λ k. not (k == 0)) (no-others 0 c n) i;
  owned = ByNobody;
}

no-names : (n value c d : ℕ) → names_on (opened_block n value) c d ≡ []
no-names n value c d = ap (λ (l : List Forward). map (λ (f : Forward). f.requestor.0 == d) l) (linkless n c)

-- any two caches of an opened block
pub opened-alpha : (caches value c d : ℕ) → alpha opened_tags (opened_block caches value) c d ≡ opened_pair
opened-alpha caches value c d = λ i. record {
  shared = opened_pair.shared;
  first = opened-side caches value c i;
  second = opened-side caches value d i;
  first_names = no-names caches value c d i;
  second_names = no-names caches value d c i;
}

law : (n value c : ℕ) (l : Line) → l ≡ opened_line → l.acks +ℤ pos 0 ≡ pos (owed_to (opened_block n value) c)
law n value c l e = ap (λ (l : Line). l.acks +ℤ pos 0) e ∙ ap (λ k. pos k) (zero-is (owed_to (opened_block n value) c) (nothing-owed n value c))
  where
    zero-is : (k : ℕ) → k ≡ 0 → 0 ≡ k
    zero-is k e = omega arith

pub opened-faithful : (caches value : ℕ) → Faithful opened_tags (opened_block caches value)
opened-faithful caches value = record {
  tags_are_true = record {
    line = λ c e. absurd (cc);
    data_to = λ c e. absurd (cc);
    putm = λ c e. absurd (cc);
    home_data = λ e. absurd (cc);
    memory = λ e. refl;
  };
  few = λ c. ap (λ (s : PairSide). is_few_side s) (opened-side caches value c);
  few_home = refl;
  lags = λ c. (law caches value c (line_of (opened_block caches value).lines c) (idle-line caches c), omega (arith, nothing-owed caches value c));
  announced = λ c. omega arith;
}

pub opened-whole : (caches value : ℕ) → IsBlockAmong caches (opened_block caches value)
opened-whole caches value = record {
  lines = length-replicate caches opened_line;
  links = length-replicate caches [];
  home = record { sharers = length-replicate caches false; owner = tt };
  requests = tt;
}
