-- The order of types, by their numbers.
use Rattle.std.proofs.Common.{◌≡◌, ◌≢◌, ℕ, zero, suc, ◌+◌, ◌<◌, ◌≤◌, Bool, true, false, ◌||◌, cond, [], ◌∷◌, length, Some, nat_eq, refl, ap, sym, ◌∙◌, subst, arith}
use Rattle.std.proofs.lemmas.Cmp.{nat_list_eq_equiv}
use Rattle.std.specs.Option.{option_map_or}
use Rattle.ep_types.specs.Names.{Text, Typings, is_text, declared, climbs, is_below}
use Rattle.ep_types.specs.Links.{Rows, typings, name_at, parent_at, up_at, depth_at, ups, AreLinked}

pub text_itself : (x : Text) → is_text x x ≡ true
text_itself x = nat_list_eq_equiv.refl x

pub text_flips : (x y : Text) → is_text x y ≡ is_text y x
text_flips x y = nat_list_eq_equiv.symm x y

split : (j k : ℕ) (b : Bool) → (j ≡ k → b ≡ true) → (j < k → b ≡ false) → (k < j → b ≡ false) → b ≡ nat_eq j k
split j k b same below above = grind arith

-- the first with a name is what is declared at it
pub first_declared : (x : Text) (rows : Rows) (k : ℕ) → k < length rows → is_text x (name_at rows k) ≡ true → ((j : ℕ) → j < k → is_text x (name_at rows j) ≡ false) → declared x (typings rows) ≡ Some (parent_at rows k)
first_declared x [] k h here before = absurd (omega arith)
first_declared x (e ∷ es) zero h here before = ap (λ b. cond b (Some e.1.parent) (declared x (typings es))) here
first_declared x (e ∷ es) (suc k) h here before =
    let other : is_text x e.0 ≡ false = before 0 (omega arith) in
    let left : k < length es = omega arith in
    ap (λ b. cond b (Some e.1.parent) (declared x (typings es))) other ∙ first_declared x es k left here (λ j l. before (suc j) (omega arith))

pub typings_long : (rows : Rows) → length (typings rows) ≡ length rows
typings_long [] = refl
typings_long (e ∷ es) = ap suc (typings_long es)

pub ups-add : (rows : Rows) (m n k : ℕ) → ups rows (m + n) k ≡ ups rows n (ups rows m k)
ups-add rows zero n k = let none : 0 + n ≡ n = omega arith in ap (λ i. ups rows i k) none
ups-add rows (suc m) n k = let more : suc m + n ≡ suc (m + n) = omega arith in ap (λ i. ups rows i k) more ∙ ups-add rows m n (up_at rows k)

pub climbs_step : (types : Typings) (above kind parent : Text) (m : ℕ) → is_text kind above ≡ false → declared kind types ≡ Some parent → climbs (suc m) types kind above ≡ climbs m types parent above
climbs_step types above kind parent m other is =
    ap (λ b. b || option_map_or (λ p. climbs m types p above) (declared kind types) false) other
    ∙ ap (λ o. option_map_or (λ p. climbs m types p above) o false) is

pub climbs_here : (types : Typings) (kind above : Text) (m : ℕ) → is_text kind above ≡ true → climbs m types kind above ≡ true
climbs_here types kind above zero same = same
climbs_here types kind above (suc m) same = ap (λ b. b || option_map_or (λ p. climbs m types p above) (declared kind types) false) same

module _ (rows : Rows) (linked : AreLinked rows) where
  pub apart : (j k : ℕ) → j < length rows → k < length rows → is_text (name_at rows j) (name_at rows k) ≡ nat_eq j k
  apart j k j-in k-in =
      split j k (is_text (name_at rows j) (name_at rows k))
      (λ e. ap (λ i. is_text (name_at rows i) (name_at rows k)) e ∙ text_itself (name_at rows k))
      (λ l. text_flips (name_at rows j) (name_at rows k) ∙ (linked.each k k-in).first j l)
      (λ l. (linked.each j j-in).first k l)

  pub up_in : (k : ℕ) → k < length rows → up_at rows k < length rows
  up_in zero k-in = subst (λ i. i < length rows) (sym linked.root) linked.some
  up_in (suc k) k-in = let l = (linked.each (suc k) k-in).lower (omega arith) in omega (arith, l)

  up_lower : (k m : ℕ) → k < length rows → k ≤ suc m → up_at rows k ≤ m
  up_lower zero m k-in le = subst (λ i. i ≤ m) (sym linked.root) (omega arith)
  up_lower (suc k) m k-in le = let l = (linked.each (suc k) k-in).lower (omega arith) in omega (arith, l)

  -- only the first type has depth 0
  pub deep : (k : ℕ) → 0 < depth_at rows k → 0 < k
  deep zero d = absurd (omega (arith, linked.top))
  deep (suc k) d = omega arith

  pub parent_declared : (k : ℕ) → k < length rows → declared (name_at rows k) (typings rows) ≡ Some (name_at rows (up_at rows k))
  parent_declared k k-in =
      let here = linked.each k k-in in
      first_declared (name_at rows k) rows k k-in (text_itself (name_at rows k)) (λ j l. here.first j l) ∙ ap Some here.parent

  pub ups_in : (m k : ℕ) → k < length rows → ups rows m k < length rows
  ups_in zero k k-in = k-in
  ups_in (suc m) k k-in = ups_in m (up_at rows k) (up_in k k-in)

  -- one step more changes nothing, where there are as many as types before
  pub enough : (above : Text) (m k : ℕ) → k ≤ m → k < length rows → climbs (suc m) (typings rows) (name_at rows k) above ≡ climbs m (typings rows) (name_at rows k) above
  enough above zero k le k-in =
      let e : k ≡ 0 = omega arith in
      let up : up_at rows k ≡ k = ap (up_at rows) e ∙ linked.root ∙ sym e in
      ap (λ o. is_text (name_at rows k) above || option_map_or (λ p. is_text p above) o false) (parent_declared k k-in)
      ∙ ap (λ i. is_text (name_at rows k) above || is_text (name_at rows i) above) up ∙ twice (is_text (name_at rows k) above)
    where
      twice : (b : Bool) → (b || b) ≡ b
      twice true = refl
      twice false = refl
  enough above (suc m) k le k-in =
      let is = parent_declared k k-in in
      ap (λ o. is_text (name_at rows k) above || option_map_or (λ p. climbs (suc m) (typings rows) p above) o false) is
      ∙ ap (λ b. is_text (name_at rows k) above || b) (enough above m (up_at rows k) (up_lower k m k-in le) (up_in k k-in))
      ∙ ap (λ o. is_text (name_at rows k) above || option_map_or (λ p. climbs m (typings rows) p above) o false) (sym is)

  module _ (a : ℕ) (a-in : a < length rows) where
    at_other : (k : ℕ) → k < length rows → k ≢ a → is_text (name_at rows k) (name_at rows a) ≡ false
    at_other k k-in ne = apart k a k-in a-in ∙ other k a ne
      where
        other : (i j : ℕ) → i ≢ j → nat_eq i j ≡ false
        other i j h = grind arith

    pub below_itself : is_below (typings rows) (name_at rows a) (name_at rows a) ≡ true
    below_itself = climbs_here (typings rows) (name_at rows a) (name_at rows a) (length (typings rows)) (text_itself (name_at rows a))

    root_apart : 0 ≢ a → (m : ℕ) → climbs m (typings rows) (name_at rows 0) (name_at rows a) ≡ false
    root_apart ne zero = at_other 0 linked.some ne
    root_apart ne (suc m) =
        climbs_step (typings rows) (name_at rows a) (name_at rows 0) (name_at rows (up_at rows 0)) m (at_other 0 linked.some ne) (parent_declared 0 linked.some)
        ∙ ap (λ k. climbs m (typings rows) (name_at rows k) (name_at rows a)) linked.root ∙ root_apart ne m

    -- below its parent exactly where it is below
    below_up : (k : ℕ) → 0 < k → k < length rows → k ≢ a → is_below (typings rows) (name_at rows k) (name_at rows a) ≡ is_below (typings rows) (name_at rows (up_at rows k)) (name_at rows a)
    below_up k pos k-in ne =
        let n = one_less (length (typings rows)) (subst (λ i. 0 < i) (sym (typings_long rows)) linked.some) in
        let e : length (typings rows) ≡ suc n.0 = n.1 in
        let l = typings_long rows in
        let le : k ≤ suc n.0 = omega (arith, l, e) in
        ap (λ i. climbs i (typings rows) (name_at rows k) (name_at rows a)) e
        ∙ climbs_step (typings rows) (name_at rows a) (name_at rows k) (name_at rows (up_at rows k)) n.0 (at_other k k-in ne) (parent_declared k k-in)
        ∙ sym (enough (name_at rows a) n.0 (up_at rows k) (up_lower k n.0 k-in le) (up_in k k-in))
        ∙ ap (λ i. climbs i (typings rows) (name_at rows (up_at rows k)) (name_at rows a)) (sym e)
      where
        one_less : (n : ℕ) → 0 < n → (m : ℕ) × (n ≡ suc m)
        one_less zero h = absurd (omega arith)
        one_less (suc n) h = (n, refl)

    -- a type that is no deeper is below no other
    shallow : (m k : ℕ) → k ≤ m → k < length rows → k ≢ a → depth_at rows k ≤ depth_at rows a → is_below (typings rows) (name_at rows k) (name_at rows a) ≡ false
    shallow m zero le k-in ne d = root_apart (λ e. ne e) (length (typings rows))
    shallow zero (suc k) le k-in ne d = absurd (omega arith)
    shallow (suc m) (suc k) le k-in ne d =
        let pos : 0 < suc k = omega arith in
        let up = up_at rows (suc k) in
        let deeper = (linked.each (suc k) k-in).deeper pos in
        let lower = (linked.each (suc k) k-in).lower pos in
        let apart_up : up ≢ a = λ e. let same : depth_at rows up ≡ depth_at rows a = ap (depth_at rows) e in absurd (omega (arith, same, deeper, d)) in
        below_up (suc k) pos k-in ne ∙ shallow m up (omega (arith, lower, le)) (up_in (suc k) k-in) apart_up (omega (arith, deeper, d))

    pub below_ups : (m k : ℕ) → k < length rows → depth_at rows a + m ≤ depth_at rows k → is_below (typings rows) (name_at rows k) (name_at rows a) ≡ is_below (typings rows) (name_at rows (ups rows m k)) (name_at rows a)
    below_ups zero k k-in room = refl
    below_ups (suc m) k k-in room =
        let pos : 0 < k = deep k (omega (arith, room)) in
        let deeper = (linked.each k k-in).deeper pos in
        let ne : k ≢ a = λ e. let same : depth_at rows k ≡ depth_at rows a = ap (depth_at rows) e in absurd (omega (arith, same, room)) in
        below_up k pos k-in ne ∙ below_ups m (up_at rows k) (up_in k k-in) (omega (arith, deeper, room))

    -- at the end of a climb
    pub below_end : (k : ℕ) → k < length rows → depth_at rows k ≤ depth_at rows a → is_below (typings rows) (name_at rows k) (name_at rows a) ≡ nat_eq k a
    below_end k k-in d = by (nat_eq k a) refl
      where
        equal : (i j : ℕ) → nat_eq i j ≡ true → i ≡ j
        equal i j h = grind arith

        other : (i j : ℕ) → nat_eq i j ≡ false → i ≢ j
        other i j h = grind arith

        by : (b : Bool) → nat_eq k a ≡ b → is_below (typings rows) (name_at rows k) (name_at rows a) ≡ b
        by true e = ap (λ i. is_below (typings rows) (name_at rows i) (name_at rows a)) (equal k a e) ∙ below_itself
        by false e = let le : k ≤ k = omega arith in shallow k k le k-in (other k a e) d
