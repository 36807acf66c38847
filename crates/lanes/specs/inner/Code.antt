-- Scenarios and stocks of parts as rows of signs, from which they are read back: the codes by which the checker tells lanes apart.
use Rattle.std.specs.Prelude.{◌≡◌, ℕ, zero, suc, Bool, true, false, List, [], ◌∷◌, refl}
use Rattle.std.specs.Coded.{Coded, code_by, coded×, coded_list, coded_bool, coded_ℕ}
use Rattle.std.proofs.Common.{◌∙◌, ap}
use Rattle.base.specs.declared.step.Ask.{Ask}
use Rattle.base.specs.declared.step.Ask.TheVariants.{Load, Store, Replace}
use Rattle.scenario.specs.Tree.{Tree, Trees, One, Seq, Any, Times, Both, Nil, Cons}
use Rattle.cursors.specs.Stock.{Stock, Empty, With}

-- which sign it is, and the numbers beside it
abbrev Sign : Type 0
Sign = ℕ × (ℕ × (ℕ × ℕ))

abbrev ask_sign : ℕ → ℕ → Ask → Sign
ask_sign core block Load = (5, (core, (block, 0)))
ask_sign core block Replace = (6, (core, (block, 0)))
ask_sign core block (Store value) = (7, (core, (block, value)))

abbrev mutual
  -- the signs of a tree, before those that follow
  signs : Tree → List Sign → List Sign
  signs (One ask) more = ask_sign ask.core.0 ask.block.0 ask.ask ∷ more
  signs (Seq ts) more = row_signs ts ((1, (0, (0, 0))) ∷ more)
  signs (Any ts) more = row_signs ts ((2, (0, (0, 0))) ∷ more)
  signs (Both ts) more = row_signs ts ((3, (0, (0, 0))) ∷ more)
  signs (Times n t) more = signs t ((4, (n, (0, 0))) ∷ more)

  -- a row begins with its own sign, and has the last of its trees first
  row_signs : Trees → List Sign → List Sign
  row_signs Nil more = (0, (0, (0, 0))) ∷ more
  row_signs (Cons t ts) more = row_signs ts (signs t more)

-- a row ends, and is a tree of the row around it
abbrev closed : (Trees → Tree) → Trees → List Trees → Trees × List Trees
closed of row [] = (row, [])
closed of row (around ∷ outer) = (Cons (of row) around, outer)

abbrev repeated : ℕ → Trees → Trees
repeated n Nil = Nil
repeated n (Cons t ts) = Cons (Times n t) ts

abbrev asked : ℕ → ℕ → Ask → Trees → Trees
asked core block a row = Cons (One (record { core = record { 0 = core }; block = record { 0 = block }; ask = a })) row

-- what a sign makes of the row that is read, and of those around it
abbrev taken : ℕ → ℕ → ℕ → ℕ → Trees → List Trees → Trees × List Trees
taken zero a b c row outer = (Nil, row ∷ outer)
taken (suc zero) a b c row outer = closed Seq row outer
taken (suc (suc zero)) a b c row outer = closed Any row outer
taken (suc (suc (suc zero))) a b c row outer = closed Both row outer
taken (suc (suc (suc (suc zero)))) a b c row outer = (repeated a row, outer)
taken (suc (suc (suc (suc (suc zero))))) a b c row outer = (asked a b Load row, outer)
taken (suc (suc (suc (suc (suc (suc zero)))))) a b c row outer = (asked a b Replace row, outer)
taken (suc (suc (suc (suc (suc (suc (suc n))))))) a b c row outer = (asked a b (Store c) row, outer)

abbrev read : List Sign → Trees → List Trees → Trees
read [] row outer = row
read (s ∷ more) row outer =
    read more (taken s.0 s.1.0 s.1.1.0 s.1.1.1 row outer).0 (taken s.0 s.1.0 s.1.1.0 s.1.1.1 row outer).1

abbrev first : Trees → Tree
first Nil = Seq Nil
first (Cons t ts) = t

read-ask : (core block : ℕ) (a : Ask) (more : List Sign) (row : Trees) (outer : List Trees) →
    read (ask_sign core block a ∷ more) row outer ≡ read more (asked core block a row) outer
read-ask core block Load more row outer = refl
read-ask core block Replace more row outer = refl
read-ask core block (Store value) more row outer = refl

mutual
  pub read-signs : (t : Tree) (more : List Sign) (row : Trees) (outer : List Trees) → read (signs t more) row outer ≡ read more (Cons t row) outer
  read-signs (One ask) more row outer = read-ask ask.core.0 ask.block.0 ask.ask more row outer
  read-signs (Seq ts) more row outer = read-row ts ((1, (0, (0, 0))) ∷ more) row outer
  read-signs (Any ts) more row outer = read-row ts ((2, (0, (0, 0))) ∷ more) row outer
  read-signs (Both ts) more row outer = read-row ts ((3, (0, (0, 0))) ∷ more) row outer
  read-signs (Times n t) more row outer = read-signs t ((4, (n, (0, 0))) ∷ more) row outer

  read-row : (ts : Trees) (more : List Sign) (row : Trees) (outer : List Trees) → read (row_signs ts more) row outer ≡ read more ts (row ∷ outer)
  read-row Nil more row outer = refl
  read-row (Cons t ts) more row outer = read-row ts (signs t more) row outer ∙ read-signs t more ts (row ∷ outer)

abbrev pub tree_code : Coded Tree
tree_code =
    code_by (List Sign) (coded_list (coded× coded_ℕ (coded× coded_ℕ (coded× coded_ℕ coded_ℕ)))) (λ t. signs t []) (λ l. first (read l Nil []))
    (λ t. ap first (read-signs t [] Nil []))

-- the signs of a stock, before those that follow: a part's own row comes before the others, and then a sign that joins them
abbrev stock_signs : Stock → List Bool → List Bool
stock_signs Empty more = false ∷ more
stock_signs (With own others) more = stock_signs own (stock_signs others (true ∷ more))

abbrev joined : List Stock → List Stock
joined [] = []
joined (others ∷ []) = []
joined (others ∷ own ∷ more) = With own others ∷ more

abbrev read_stocks : List Bool → List Stock → List Stock
read_stocks [] done = done
read_stocks (false ∷ more) done = read_stocks more (Empty ∷ done)
read_stocks (true ∷ more) done = read_stocks more (joined done)

abbrev first_stock : List Stock → Stock
first_stock [] = Empty
first_stock (s ∷ ss) = s

pub read-stock : (s : Stock) (more : List Bool) (done : List Stock) → read_stocks (stock_signs s more) done ≡ read_stocks more (s ∷ done)
read-stock Empty more done = refl
read-stock (With own others) more done =
    read-stock own (stock_signs others (true ∷ more)) done ∙ read-stock others (true ∷ more) (own ∷ done)

abbrev pub stock_code : Coded Stock
stock_code =
    code_by (List Bool) (coded_list coded_bool) (λ s. stock_signs s []) (λ l. first_stock (read_stocks l []))
    (λ s. ap first_stock (read-stock s [] []))
