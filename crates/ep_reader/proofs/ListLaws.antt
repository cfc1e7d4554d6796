-- The laws of the readers of lists.
use Rattle.std.proofs.Common.{◌≡◌, ℕ, zero, suc, ◌≤◌, Bool, true, false, List, [], ◌∷◌, ◌++◌, length, map, Ok, refl, sym, ap, ◌∙◌, subst, arith, length-append}
use Rattle.std.specs.List.{AllByRecursion, flat_map}
use Rattle.std.proofs.lemmas.Bool.{false≢true}
use Rattle.ep_tree.specs.declared.terminal.Terminal.{Terminal}
use Rattle.ep_tree.specs.Formed.{OneOrMore}
use Rattle.ep_tree.specs.Grammar.{Grammar}
use Rattle.ep_tree.specs.Marks.{Mark, fixed, texts}
use Rattle.ep_reader.specs.Reading.{Token, Reader, heads, name, each_by, each, some_each, front, behind_key, listed, any_listed}
use Rattle.ep_tree.specs.Terminals.{is}
use Rattle.ep_tree.specs.Spelling.{behind, between}
use Rattle.ep_tree.specs.Terminals.{text_of, is_name}
use Rattle.ep_reader.proofs.MarkLists.{Agree}
use Rattle.ep_tree.proofs.CallerLemmas.{length-texts}
use Rattle.ep_reader.proofs.Laws.{Follow, IsSame, both, both_then, seq_outcome, Makes, Made, got}
use Rattle.ep_tree.specs.declared.terminal.Terminal.TheVariants as the
use Rattle.ep_reader.proofs.Readers.{Reads, Part, Any, Lacks, Next, pair, then, made_by, made_all, either, is-text_of, next_lacks, plain_reads, names_one, name_part}

pub Agree-heads : (test : Token → Bool) (xs ys : List Token) → Agree 1 xs ys → heads test xs ≡ heads test ys
Agree-heads test [] [] a = refl
Agree-heads test [] (y ∷ ys) a = absurd a
Agree-heads test (x ∷ xs) [] a = absurd a
Agree-heads test (x ∷ xs) (y ∷ ys) a = ap test a.0

-- each value begins with a token that passes the test
abbrev pub StartsWith : {A : Type 0} → (Token → Bool) → Grammar A → Type 0
StartsWith {A} test g = (a : A) (more : List Token) → g.IsFormed a → heads test (texts (g.marks a) ++ more) ≡ true

-- a value may follow
abbrev pub MayFollow : {A : Type 0} → Follow → Grammar A → Type 0
MayFollow {A} G g = (a : A) (more : List Token) → g.IsFormed a → G (texts (g.marks a) ++ more)

-- ---- { item }

abbrev pub each_of : {A : Type 0} → Grammar A → Grammar (List A)
each_of g = record { marks = flat_map g.marks; IsFormed = AllByRecursion g.IsFormed; bare = map g.bare }

-- item { item }
abbrev pub some_each_of : {A : Type 0} → Grammar A → Grammar (List A)
some_each_of g = record { marks = flat_map g.marks; IsFormed = OneOrMore g.IsFormed; bare = map g.bare }

nonempty : (test : Token → Bool) (xs : List Mark) → heads test (texts xs ++ []) ≡ true → 1 ≤ length xs
nonempty test [] e = absurd (false≢true e)
nonempty test (x ∷ xs) e = omega arith

module _ {A : Type 0} (test : Token → Bool) (g : Grammar A) (G F : Follow) (item : Reader A) (p : Part g G item)
    (starts : StartsWith test g) (goes : MayFollow G g) (ends : (ts : List Token) → F ts → G ts) (stops : (ts : List Token) → F ts → Lacks test ts) where
  item_first : (x : A) (xs : List A) (more : List Token) → g.IsFormed x → heads test (texts (flat_map g.marks (x ∷ xs)) ++ more) ≡ true
  item_first x xs more f = ap (heads test) (both_then (g.marks x) (flat_map g.marks xs) more) ∙ starts x (texts (flat_map g.marks xs) ++ more) f

  follow : (xs : List A) (after : List Token) → AllByRecursion g.IsFormed xs → F after → G (texts (flat_map g.marks xs) ++ after)
  follow [] after f s = ends after s
  follow (x ∷ xs) after f s = subst G (sym (both_then (g.marks x) (flat_map g.marks xs) after)) (goes x (texts (flat_map g.marks xs) ++ after) f.0)

  none_same : (ts : List Token) → heads test ts ≡ false → (b : List A) (more : List Token) → AllByRecursion g.IsFormed b → Agree 1 ts (texts (flat_map g.marks b) ++ more) → IsSame (each_of g) [] b
  none_same ts e [] more f a = record { bare = refl; outlines = refl }
  none_same ts e (x ∷ xs) more f a = absurd (false≢true (sym e ∙ Agree-heads test ts _ a ∙ item_first x xs more f.0))

  none_read : (n : ℕ) (ts : List Token) → heads test ts ≡ false → Reads (each_of g) F n ts (Ok ([], n, ts))
  none_read n ts e = record { holds = record { text = refl; at = omega arith; placed = tt; formed = tt; shallow = tt; only = λ b more f s a. none_same ts e b more f a } }

  some_back : (ts : List Token) → heads test ts ≡ true → (b : List A) (more : List Token) → AllByRecursion g.IsFormed b → F more → Agree 1 ts (texts (flat_map g.marks b) ++ more) → Made (both g (each_of g)) front b
  some_back ts e [] more f s a = absurd (false≢true (sym (stops more s) ∙ sym (Agree-heads test ts more a) ∙ e))
  some_back ts e (x ∷ xs) more f s a = record { from = (x, xs); formed = f; is = refl }

  front_makes : Makes (both g (each_of g)) (each_of g) front
  front_makes = record { marks = λ _ _. refl; formed = λ _ f. f; bare = λ _. refl }

  each_reads : (fuel n : ℕ) (ts : List Token) → length ts ≤ fuel → Reads (each_of g) F n ts (each_by fuel test item n ts)
  unfolding each_by
  each_reads zero n [] l = none_read n [] refl
  each_reads zero n (t ∷ ts) l = absurd (omega arith)
  each_reads (suc fuel) n ts l = either (heads test ts)
      (λ e. made_by front_makes
      (record {
        holds = seq_outcome g (each_of g) G F n ts follow (item n ts) (p.reads n ts).holds (each_by fuel test item)
            (λ x i.
            let r = got g G n ts (item n ts) (p.reads n ts).holds x i in
            (each_reads fuel x.1 x.2
            (omega (arith, ap length r.text, length-append (texts (g.marks x.0)) x.2, length-texts (g.marks x.0), nonempty test (g.marks x.0) (starts x.0 [] r.formed)))).holds)
            [] tt;
      })
      (some_back ts e))
      (λ e. none_read n ts e)

  pub each_part : Part (each_of g) F (each test item)
  each_part = record { reads = λ n ts. each_reads (length ts) n ts (omega arith); value = []; formed = tt }

  some_each_back : (b : List A) → OneOrMore g.IsFormed b → Made (both g (each_of g)) front b
  some_each_back [] f = absurd f
  some_each_back (x ∷ xs) f = record { from = (x, xs); formed = f; is = refl }

  pub some_each_part : Part (some_each_of g) F (some_each test item)
  some_each_part = record {
    reads = λ n ts. made_all (record { marks = λ _ _. refl; formed = λ _ f. f; bare = λ _. refl }) some_each_back (pair (p.reads n ts) each_part follow);
    value = p.value ∷ [];
    formed = (p.formed, tt);
  }

-- ---- item { t item }

abbrev pub behind_of : {A : Type 0} → Terminal → Grammar A → Grammar A
behind_of t g = record { marks = λ a. fixed t ∷ g.marks a; IsFormed = g.IsFormed; bare = g.bare }

pub behind-flat_map : {A : Type 0} (t : Terminal) (g : Grammar A) (xs : List A) → behind t (map g.marks xs) ≡ flat_map (behind_of t g).marks xs
behind-flat_map t g [] = refl
behind-flat_map t g (x ∷ xs) = ap (λ z. fixed t ∷ (g.marks x ++ z)) (behind-flat_map t g xs)

abbrev pub listed_of : {A : Type 0} → Terminal → Grammar A → Grammar (List A)
listed_of t g = record { marks = λ xs. between t (map g.marks xs); IsFormed = OneOrMore g.IsFormed; bare = map g.bare }

abbrev pub any_listed_of : {A : Type 0} → Terminal → Grammar A → Grammar (List A)
any_listed_of t g = record { marks = λ xs. between t (map g.marks xs); IsFormed = AllByRecursion g.IsFormed; bare = map g.bare }

pub keyed_part : {A : Type 0} {g : Grammar A} {F : Follow} {item : Reader A} (t : Terminal) → Part g F item → Part (behind_of t g) F (behind_key t item)
keyed_part t p = record {
  reads = λ n ts. made_all (record { marks = λ _ _. refl; formed = λ _ f. f.1; bare = λ _. refl }) (λ b f. record { from = (0, b); formed = (tt, f); is = refl })
      (then (plain_reads t n ts) p);
  value = p.value;
  formed = p.formed;
}

module _ {A : Type 0} (t : Terminal) (g : Grammar A) (G F : Follow) (item : Reader A) (p : Part g G item)
    (goes : (more : List Token) → G (text_of t ∷ more)) (ends : (ts : List Token) → F ts → G ts) (stops : (ts : List Token) → F ts → Lacks (is t) ts) where
  pub behind_part : Part (behind_of t g) G (behind_key t item)
  behind_part = keyed_part t p

  pub rest_part : Part (each_of (behind_of t g)) F (each (is t) (behind_key t item))
  rest_part = each_part (is t) (behind_of t g) G F (behind_key t item) behind_part (λ _ _ _. is-text_of t) (λ _ more _. goes _) ends stops

  pub follow_rest : (xs : List A) (after : List Token) → AllByRecursion g.IsFormed xs → F after → G (texts (flat_map (behind_of t g).marks xs) ++ after)
  follow_rest [] after f s = ends after s
  follow_rest (x ∷ xs) after f s = goes _

  listed_makes : Makes (both g (each_of (behind_of t g))) (listed_of t g) front
  listed_makes = record { marks = λ a _. ap (λ z. g.marks a.0 ++ z) (behind-flat_map t g a.1); formed = λ _ f. f; bare = λ _. refl }

  listed_back : (b : List A) → OneOrMore g.IsFormed b → Made (both g (each_of (behind_of t g))) front b
  listed_back [] f = absurd f
  listed_back (x ∷ xs) f = record { from = (x, xs); formed = f; is = refl }

  pub listed_part : Part (listed_of t g) F (listed t item)
  listed_part = record {
    reads = λ n ts. made_all listed_makes listed_back (pair (p.reads n ts) rest_part follow_rest);
    value = p.value ∷ [];
    formed = (p.formed, tt);
  }

  module _ (test : Token → Bool) (starts : StartsWith test g) (shuts : (ts : List Token) → F ts → Lacks test ts) where
    any_none : (ts : List Token) → heads test ts ≡ false → (b : List A) (more : List Token) → AllByRecursion g.IsFormed b → Agree 1 ts (texts (between t (map g.marks b)) ++ more) → IsSame (any_listed_of t g) [] b
    any_none ts e [] more f a = record { bare = refl; outlines = refl }
    any_none ts e (x ∷ xs) more f a = absurd (false≢true (sym e ∙ Agree-heads test ts _ a
        ∙ ap (heads test) (both_then (g.marks x) (behind t (map g.marks xs)) more) ∙ starts x _ f.0))

    any_back : (ts : List Token) → heads test ts ≡ true → (b : List A) (more : List Token) → AllByRecursion g.IsFormed b → F more → Agree 1 ts (texts (between t (map g.marks b)) ++ more)
        → Made (both g (each_of (behind_of t g))) front b
    any_back ts e [] more f s a = absurd (false≢true (sym (shuts more s) ∙ sym (Agree-heads test ts more a) ∙ e))
    any_back ts e (x ∷ xs) more f s a = record { from = (x, xs); formed = f; is = refl }

    any_makes : Makes (both g (each_of (behind_of t g))) (any_listed_of t g) front
    any_makes = record { marks = λ a _. ap (λ z. g.marks a.0 ++ z) (behind-flat_map t g a.1); formed = λ _ f. f; bare = λ _. refl }

    pub any_listed_part : Part (any_listed_of t g) F (any_listed test t item)
    any_listed_part = record {
      reads = λ n ts. either (heads test ts)
          (λ e. made_by any_makes (pair (p.reads n ts) rest_part follow_rest) (any_back ts e))
          (λ e. record { holds = record { text = refl; at = omega arith; placed = tt; formed = tt; shallow = tt; only = λ b more f s a. any_none ts e b more f a } });
      value = [];
      formed = tt;
    }

-- ---- lists of names

pub names_part : (right : Terminal) → is the.Comma (text_of right) ≡ false → Part (listed_of the.Comma names_one) (Next right) (listed the.Comma name)
names_part right e = listed_part the.Comma names_one Any (Next right) name name_part (λ _. tt) (λ _ _. tt) (next_lacks right (is the.Comma) e)

pub names_start : StartsWith is_name names_one
names_start a more f = f

pub any_names_part : (right : Terminal) → is the.Comma (text_of right) ≡ false → is_name (text_of right) ≡ false → Part (any_listed_of the.Comma names_one) (Next right) (any_listed is_name the.Comma name)
any_names_part right e d = any_listed_part the.Comma names_one Any (Next right) name name_part (λ _. tt) (λ _ _. tt) (next_lacks right (is the.Comma) e) is_name names_start (next_lacks right is_name d)
