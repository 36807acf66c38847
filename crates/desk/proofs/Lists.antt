-- A place of a list that is seen through a function.
use Rattle.std.proofs.Common.{◌≡◌, ℕ, ◌<◌, List, ◌++◌, take, drop, slice_get, length, get_or, set, map}
use Rattle.std.proofs.Common.{sym, ap, ◌∙◌, arith, Option, Some, None, Result, Ok, Err, false}
use Rattle.std.specs.Prelude.{MatchOption, MatchResult}
use Rattle.std.specs.Result.{is_err}
use Rattle.std.proofs.lemmas.List.{get_or-map, map-set, set-get_or, length-map, drop_all, take_all, append-nil}
use Rattle.std.proofs.lemmas.Option.{slice_get-get_or}

pub cells_meet : {N C : Type 0} (f : N → ℕ) (g : C → ℕ) (ns : List N) (cs : List C) (k : ℕ) (n : N) (c : C)
    → map f ns ≡ map g cs → k < length cs → n ≡ get_or ns k n → c ≡ get_or cs k c → f n ≡ g c
cells_meet f g ns cs k n c same lt at_n at_c =
    let len : length ns ≡ length cs = sym (length-map ns f) ∙ (ap (λ l. length l) same ∙ length-map cs g) in
    ap f at_n ∙ (sym (get_or-map f ns k n 0 (omega (arith, len, lt))) ∙ (ap (λ l. get_or l k 0) same ∙ (get_or-map g cs k c 0 lt ∙ sym (ap g at_c))))

-- what a place has, seen through f
pub seen_at : {N Y : Type 0} (f : N → Y) (ns : List N) (k : ℕ) (m : N) (d : Y) → k < length ns → m ≡ get_or ns k m → get_or (map f ns) k d ≡ f m
seen_at f ns k m d lt at = get_or-map f ns k m d lt ∙ sym (ap f at)

pub map_set_same : {N Y : Type 0} (f : N → Y) (ns : List N) (k : ℕ) (n m : N) → k < length ns → m ≡ get_or ns k m
    → f n ≡ f m → map f (set ns k n) ≡ map f ns
map_set_same f ns k n m lt at e =
    let seen = e ∙ sym (seen_at f ns k m (f m) lt at) in
    map-set f ns k n ∙ (ap (λ y. set (map f ns) k y) seen ∙ set-get_or (map f ns) k (f m))

pub as_long : {N C : Type 0} (f : N → ℕ) (g : C → ℕ) (ns : List N) (cs : List C) → map f ns ≡ map g cs → length ns ≡ length cs
as_long f g ns cs same = sym (length-map ns f) ∙ (ap (λ l. length l) same ∙ length-map cs g)

pub match_map : {X P P' : Type 0} {Q Q' : X → Type 0} (o : Option X) → (P → P') → ((x : X) → Q x → Q' x)
    → MatchOption o P Q → MatchOption o P' Q'
match_map None f g h = f h
match_map (Some x) f g h = g x h

pub ok_of : {A E : Type 0} (P : A → Type 0) (Q : E → Type 0) (r : Result A E) → is_err r ≡ false → MatchResult r P Q → (a : A) × P a
ok_of P Q (Ok a) e h = (a, h)
ok_of P Q (Err x) e h = absurd (cc e)

pub long_as : {N Y : Type 0} (f : N → Y) (ns : List N) (ys : List Y) → map f ns ≡ ys → length ns ≡ length ys
long_as f ns ys e = sym (length-map ns f) ∙ ap (λ l. length l) e

pub long_same : {N Y : Type 0} (f : N → Y) (ns ms : List N) → map f ns ≡ map f ms → length ns ≡ length ms
long_same f ns ms e = long_as f ns (map f ms) e ∙ length-map ms f

-- a list that was lent and came back as it was
pub restored : {X : Type 0} (xs ys : List X) (n : ℕ) → xs ≡ ys → n ≡ length ys → take n (xs ++ drop (length xs) ys) ≡ ys
restored xs ys n e long = rw (e, drop_all (length ys) ys (omega arith), append-nil) (take_all n ys (omega (arith, long)))

pub item_at : {X : Type 0} (xs ys : List X) (k : ℕ) (x : X) → xs ≡ ys → k < length xs → slice_get ys k ≡ Some (get_or xs k x)
item_at xs ys k x e lt = ap (λ l. slice_get l k) (sym e) ∙ slice_get-get_or xs k x lt

pub put_back_same : {X : Type 0} (xs ys : List X) (k : ℕ) (x y : X) → xs ≡ ys → y ≡ get_or xs k x → set xs k y ≡ ys
put_back_same xs ys k x y e same = ap (λ z. set xs k z) same ∙ (set-get_or xs k x ∙ e)
