-- One type more.
use Rattle.std.proofs.Common.{◌≡◌, ℕ, zero, suc, ◌+◌, ◌-◌, ◌<◌, ◌⊎◌, inl, inr, true, false, ◌||◌, Bool, [], ◌∷◌, ◌++◌, length, map, get_or, Some, refl, ap, sym, ◌∙◌, subst, arith, length-append}
use Rattle.std.proofs.lemmas.List.Quantifiers.{position-Some}
use Rattle.std.specs.Cmp.Lexicographic.{bytes_decides}
use Rattle.std.specs.List.{position}
use Rattle.std.specs.Option.{option_map_or}
use Rattle.ep_types.specs.Names.{Text, Typings, climbs, is_text, is_among, names_of}
use Rattle.ep_types.specs.Links.{Rows, typings, name_at, parent_at, up_at, far_at, depth_at, ups, IsAbove, IsLinked, AreLinked}
use Rattle.ep_types.proofs.TypeOrder.{climbs_step, parent_declared, text_flips, up_in}
use Rattle.ep_types.proofs.NamesLemmas.{declared-absent}
use Rattle.ep_types.proofs.Above.{above_there, above_trans, up_step}
use Rattle.ep_types.specs.declared.types.TypeRow.{TypeRow}

kept : {X : Type 0} (f : Text × TypeRow → X) (d : X) (rows : Rows) (e : Text × TypeRow) (k : ℕ) → k < length rows → get_or (map f (rows ++ e ∷ [])) k d ≡ get_or (map f rows) k d
kept f d [] e k h = absurd (omega arith)
kept f d (r ∷ rs) e zero h = refl
kept f d (r ∷ rs) e (suc k) h = kept f d rs e k (omega arith)

added : {X : Type 0} (f : Text × TypeRow → X) (d : X) (rows : Rows) (e : Text × TypeRow) → get_or (map f (rows ++ e ∷ [])) (length rows) d ≡ f e
added f d [] e = refl
added f d (r ∷ rs) e = added f d rs e

or_false : (b c : Bool) → (b || c) ≡ false → (b ≡ false) × (c ≡ false)
or_false true c h = cc
or_false false c h = (refl, h)

-- a name that is in no list differs from each
other_names : (x : Text) (rows : Rows) (j : ℕ) → is_among x (names_of rows) ≡ false → j < length rows → is_text x (name_at rows j) ≡ false
other_names x [] j h l = absurd (omega arith)
other_names x (r ∷ rs) zero h l = (or_false (is_text x r.0) (is_among x (names_of rs)) h).0
other_names x (r ∷ rs) (suc j) h l = other_names x rs j (or_false (is_text x r.0) (is_among x (names_of rs)) h).1 (omega arith)

last_or_before : (k n : ℕ) → k < n + 1 → (k < n) ⊎ (k ≡ n)
last_or_before zero zero h = inr refl
last_or_before zero (suc n) h = inl (omega arith)
last_or_before (suc k) zero h = absurd (omega arith)
last_or_before (suc k) (suc n) h = elim (last_or_before k n (omega arith)) [ inl l ↦ inl (omega arith) | inr e ↦ inr (ap suc e) ]

module _ (rows : Rows) (linked : AreLinked rows) (x : Text) (row : TypeRow) where
  all : Rows
  all = rows ++ (x, row) ∷ []

  name_kept : (k : ℕ) → k < length rows → name_at all k ≡ name_at rows k
  unfolding all
  name_kept = kept (λ e. e.0) [] rows (x, row)

  parent_kept : (k : ℕ) → k < length rows → parent_at all k ≡ parent_at rows k
  unfolding all
  parent_kept = kept (λ e. e.1.parent) [] rows (x, row)

  up_kept : (k : ℕ) → k < length rows → up_at all k ≡ up_at rows k
  unfolding all
  up_kept = kept (λ e. e.1.up) 0 rows (x, row)

  far_kept : (k : ℕ) → k < length rows → far_at all k ≡ far_at rows k
  unfolding all
  far_kept = kept (λ e. e.1.far) 0 rows (x, row)

  depth_kept : (k : ℕ) → k < length rows → depth_at all k ≡ depth_at rows k
  unfolding all
  depth_kept = kept (λ e. e.1.depth) 0 rows (x, row)

  name_added : name_at all (length rows) ≡ x
  unfolding all
  name_added = added (λ e. e.0) [] rows (x, row)

  parent_added : parent_at all (length rows) ≡ row.parent
  unfolding all
  parent_added = added (λ e. e.1.parent) [] rows (x, row)

  up_added : up_at all (length rows) ≡ row.up
  unfolding all
  up_added = added (λ e. e.1.up) 0 rows (x, row)

  far_added : far_at all (length rows) ≡ row.far
  unfolding all
  far_added = added (λ e. e.1.far) 0 rows (x, row)

  depth_added : depth_at all (length rows) ≡ row.depth
  unfolding all
  depth_added = added (λ e. e.1.depth) 0 rows (x, row)

  ups_kept : (m k : ℕ) → k < length rows → ups all m k ≡ ups rows m k
  ups_kept zero k h = refl
  ups_kept (suc m) k h = ap (ups all m) (up_kept k h) ∙ ups_kept m (up_at rows k) (up_in rows linked k h)

  above_kept : (k j : ℕ) → k < length rows → IsAbove rows k j → IsAbove all k j
  above_kept k j h a =
      let k-depth = depth_kept k h in
      let j-depth = depth_kept j (above_there rows linked k j h a) in
      let less = a.shallower in
      let steps : depth_at rows k - depth_at rows j ≡ depth_at all k - depth_at all j = omega (arith, k-depth, j-depth) in
      record {
        shallower = omega (arith, k-depth, j-depth, less);
        is = a.is ∙ sym (ups_kept (depth_at rows k - depth_at rows j) k h) ∙ ap (λ n. ups all n k) steps;
      }

  linked_kept : (k : ℕ) → k < length rows → IsLinked all k
  linked_kept k h =
      let here = linked.each k h in
      let up-in = up_in rows linked k h in
      record {
        first = λ j l. (λ i. is_text (name_kept k h i) (name_kept j (omega arith) i)) ∙ here.first j l;
        parent = parent_kept k h ∙ here.parent ∙ sym (name_kept (up_at rows k) up-in) ∙ ap (name_at all) (sym (up_kept k h));
        lower = λ pos. subst (λ i. i < k) (sym (up_kept k h)) (here.lower pos);
        deeper = λ pos. depth_kept k h ∙ here.deeper pos ∙ ap suc (sym (depth_kept (up_at rows k) up-in)) ∙ ap (λ i. suc (depth_at all i)) (sym (up_kept k h));
        far = let P : ℕ → Type 0 = λ i. IsAbove all k i in subst P (sym (far_kept k h)) (above_kept k (far_at rows k) h here.far);
        far_shallower = λ pos.
            let far-depth : depth_at all (far_at all k) ≡ depth_at rows (far_at rows k) =
            ap (depth_at all) (far_kept k h) ∙ depth_kept (far_at rows k) (above_there rows linked k (far_at rows k) h here.far)
            in
            let k-depth = depth_kept k h in
            let less = here.far_shallower pos in
            omega (arith, far-depth, k-depth, less);
      }

  module _ (absent : is_among x (names_of rows) ≡ false) (up-in : row.up < length rows) (parent : row.parent ≡ name_at rows row.up)
      (far : IsAbove rows row.up row.far) (depth : row.depth ≡ depth_at rows row.up + 1) where
    deeper_added : depth_at all (length rows) ≡ suc (depth_at all (up_at all (length rows)))
    deeper_added =
        let one : depth_at rows row.up + 1 ≡ suc (depth_at rows row.up) = omega arith in
        depth_added ∙ depth ∙ one ∙ ap suc (sym (depth_kept row.up up-in)) ∙ ap (λ i. suc (depth_at all i)) (sym up_added)

    linked_added : IsLinked all (length rows)
    linked_added =
        let up_there : IsAbove all (length rows) row.up = let P : ℕ → Type 0 = λ i. IsAbove all (length rows) i in subst P up_added (up_step all (length rows) deeper_added) in
        let far_there = above_trans all (length rows) row.up row.far up_there (above_kept row.up row.far up-in far) in
        record {
          first = λ j l. (λ i. is_text (name_added i) (name_kept j l i)) ∙ other_names x rows j absent l;
          parent = parent_added ∙ parent ∙ sym (name_kept row.up up-in) ∙ ap (name_at all) (sym up_added);
          lower = λ pos. subst (λ i. i < length rows) (sym up_added) up-in;
          deeper = λ pos. deeper_added;
          far = let P : ℕ → Type 0 = λ i. IsAbove all (length rows) i in subst P (sym far_added) far_there;
          far_shallower = λ pos.
              let far-depth : depth_at all (far_at all (length rows)) ≡ depth_at rows row.far =
              ap (depth_at all) far_added ∙ depth_kept row.far (above_there rows linked row.up row.far up-in far)
              in
              let less = far.shallower in
              let here : depth_at all (length rows) ≡ depth_at rows row.up + 1 = depth_added ∙ depth in
              omega (arith, far-depth, less, here);
        }

    pub grown : AreLinked (rows ++ (x, row) ∷ [])
    unfolding all
    grown =
        let long : length all ≡ length rows + 1 = length-append rows ((x, row) ∷ []) in
        let here : 0 < length rows = linked.some in
        record {
          some = omega (arith, long);
          root = up_kept 0 here ∙ linked.root;
          top = depth_kept 0 here ∙ linked.top;
          each = λ k h.
              let P : ℕ → Type 0 = λ i. IsLinked all i in
              elim (last_or_before k (length rows) (omega (arith, long))) [ inl l ↦ linked_kept k l | inr e ↦ subst P (sym e) linked_added ];
        }

-- the first type alone
pub alone : (x : Text) (row : TypeRow) → row.parent ≡ x → row.up ≡ 0 → row.far ≡ 0 → row.depth ≡ 0 → AreLinked ((x, row) ∷ [])
alone x row parent up far depth =
    let rows : Rows = (x, row) ∷ [] in
    let none : row.depth - row.depth ≡ 0 = omega arith in
    let itself : IsAbove rows 0 0 = record { shallower = omega arith; is = sym (ap (λ n. ups rows n 0) none) } in
    let P : ℕ → Type 0 = λ i. IsAbove rows 0 i in
    let here : IsLinked rows 0 =
    record {
      first = λ j l. absurd (omega arith);
      parent = parent ∙ ap (name_at rows) (sym up);
      lower = λ pos. absurd (omega arith);
      deeper = λ pos. absurd (omega arith);
      far = subst P (sym far) itself;
      far_shallower = λ pos. absurd (omega arith);
    }
    in
    record {
      some = omega arith;
      root = up;
      top = depth;
      each = λ k h. let e : k ≡ 0 = omega arith in let Q : ℕ → Type 0 = λ i. IsLinked rows i in subst Q (sym e) here;
    }

-- ---- types by their names

pub names_typed : (rows : Rows) → names_of (typings rows) ≡ names_of rows
names_typed [] = refl
names_typed (r ∷ rs) = ap (λ z. r.0 ∷ z) (names_typed rs)

pub typed_added : (rows : Rows) (x : Text) (row : TypeRow) → typings (rows ++ (x, row) ∷ []) ≡ typings rows ++ (x, row.parent) ∷ []
typed_added [] x row = refl
typed_added (r ∷ rs) x row = ap (λ z. (r.0, r.1.parent) ∷ z) (typed_added rs x row)

named_long : (rows : Rows) → length (names_of rows) ≡ length rows
named_long [] = refl
named_long (r ∷ rs) = ap suc (named_long rs)

pub found_at : (x : Text) (rows : Rows) (k : ℕ) → position (is_text x) (names_of rows) ≡ Some k → (k < length rows) × (x ≡ name_at rows k)
found_at x rows k h =
    let p = position-Some (is_text x) (names_of rows) k [] h in
    (omega (arith, p.0, named_long rows), (bytes_decides x (name_at rows k)).0 p.1)

pub below_unknown : (types : Typings) (kind above : Text) (n : ℕ) → is_among kind (names_of types) ≡ false → climbs n types kind above ≡ is_text kind above
below_unknown types kind above zero h = refl
below_unknown types kind above (suc n) h =
    ap (λ o. is_text kind above || option_map_or (λ p. climbs n types p above) o false) (declared-absent kind types h) ∙ alone_or (is_text kind above)
  where
    alone_or : (b : Bool) → (b || false) ≡ b
    alone_or true = refl
    alone_or false = refl

pub below_nowhere : (rows : Rows) (linked : AreLinked rows) (above : Text) (n k : ℕ) → is_among above (names_of rows) ≡ false → k < length rows → climbs n (typings rows) (name_at rows k) above ≡ false
below_nowhere rows linked above zero k h k-in = text_flips (name_at rows k) above ∙ other_names above rows k h k-in
below_nowhere rows linked above (suc n) k h k-in =
    climbs_step (typings rows) above (name_at rows k) (name_at rows (up_at rows k)) n (text_flips (name_at rows k) above ∙ other_names above rows k h k-in) (parent_declared rows linked k k-in)
    ∙ below_nowhere rows linked above n (up_at rows k) h (up_in rows linked k k-in)
