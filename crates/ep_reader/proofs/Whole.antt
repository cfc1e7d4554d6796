-- A value and nothing behind it: what the answer of its reader says of the tokens.
use Rattle.std.proofs.Common.{◌≡◌, ℕ, zero, suc, ◌≤◌, ◌<◌, List, [], ◌∷◌, ◌++◌, length, take, drop, Result, Ok, Err, IfOk, refl, sym, ap, ◌∙◌, subst, arith, append_assoc, length-append, inl, inr, ◌⊎◌, ⊎_elim}
use Rattle.std.specs.Prelude.{IsOkUnless}
use Rattle.std.proofs.lemmas.List.{append-nil, take_at, take-append-drop}
use Rattle.std.proofs.lemmas.Bool.{cases_lt}
use Rattle.ep_reader.specs.declared.error.SyntaxError.{SyntaxError}
use Rattle.ep_reader.specs.declared.error.SyntaxError.TheVariants as error
use Rattle.ep_reader.specs.Answers.{RefusesWith, IsReadBy}
use Rattle.ep_reader.specs.Decided.{IsDecided}
use Rattle.ep_reader.specs.Gives.{Stops, Says}
use Rattle.ep_tree.specs.Grammar.{Grammar, spelling_of, IsOnly, IsViable, IsDeep, SyntaxAt, DeepAt}
use Rattle.ep_tree.specs.Grammar as grammar
use Rattle.ep_tree.specs.Marks.{texts}
use Rattle.ep_reader.specs.Reading.{Token, Syntax, TooDeep, Read, Reader, seq, paired, made, end, whole, first_of}
use Rattle.ep_reader.proofs.Laws.{Follow, Outcome, got, failed, deep}
use Rattle.ep_reader.proofs.MarkLists.{Agree, Agree-less, Agree-same, IsShallowTo, Opens, shallow_opens, shallow_to}
use Rattle.ep_reader.proofs.Readers.{Reads, Part, pair, made_all}

abbrev pub IsEmpty : Follow
IsEmpty ts = ts ≡ []

abbrev nothing : Grammar (Unit {0})
nothing = record { marks = λ _. []; IsFormed = λ _. Unit {0}; bare = λ u. u }

end_part : Part nothing IsEmpty end
end_part = record { reads = end_reads; value = tt; formed = tt }
  where
    end_reads : (n : ℕ) (ts : List Token) → Reads nothing IsEmpty n ts (end n ts)
    end_reads n [] = record { holds = record { text = refl; at = omega arith; placed = tt; formed = tt; shallow = tt; only = λ b more f s a. record { bare = refl; outlines = refl } } }
    end_reads n (t ∷ ts) = record {
      holds = record {
        front = [];
        back = t ∷ ts;
        text = refl;
        at = omega arith;
        none = λ b more f s a. let h : Agree 1 (t ∷ ts) [] = subst (λ z. Agree 1 (t ∷ ts) z) s a in h;
        value = tt;
        more = [];
        formed = tt;
        begins = refl;
        shallow = tt;
      };
    }

rest_empty : {A : Type 0} (r : Read A) (y : A × ℕ × List Token) → made first_of (seq r end) ≡ Ok y → y.2 ≡ []
rest_empty (Err e) y h = absurd (cc)
rest_empty (Ok (a, m, [])) y h = let e : y ≡ (a, m, []) = cc in ap (λ z. z.2) e
rest_empty (Ok (a, m, t ∷ ts)) y h = absurd (cc)

agree_take : (k : ℕ) (xs more : List Token) → k ≤ length xs → Agree k xs (take k xs ++ more)
agree_take zero xs more l = tt
agree_take (suc k) [] more l = absurd (omega arith)
agree_take (suc k) (x ∷ xs) more l = (refl, agree_take k xs more (omega arith))

-- a longer front begins with a shorter one
take-longer : (m n : ℕ) (xs : List Token) → m ≤ n → take n xs ≡ take m xs ++ drop m (take n xs)
take-longer zero n xs l = refl
take-longer (suc m) zero xs l = absurd (omega arith)
take-longer (suc m) (suc n) [] l = refl
take-longer (suc m) (suc n) (x ∷ xs) l = ap (λ z. x ∷ z) (take-longer m n xs (omega arith))

take_longer_then : (m n : ℕ) (xs more : List Token) → m ≤ n → take n xs ++ more ≡ take m xs ++ (drop m (take n xs) ++ more)
take_longer_then m n xs more l = ap (λ z. z ++ more) (take-longer m n xs l) ∙ append_assoc (take m xs) (drop m (take n xs)) more

module _ {A : Type 0} (g : Grammar A) (ts : List Token) where
  -- what begins with the first n tokens agrees in as many
  begins_agrees : (n : ℕ) (tree : A) (more : List Token) → n ≤ length ts → spelling_of g tree ≡ take n ts ++ more → Agree n ts (spelling_of g tree ++ [])
  begins_agrees n tree more l e = subst (λ z. Agree n ts z) (sym (append-nil (spelling_of g tree) ∙ e)) (agree_take n ts more l)

  spelled_agrees : (n : ℕ) (tree : A) → spelling_of g tree ≡ ts → Agree n ts (spelling_of g tree ++ [])
  spelled_agrees n tree e = subst (λ z. Agree n ts z) (sym (append-nil (spelling_of g tree) ∙ e)) (Agree-same n ts)

  -- ---- the three kinds of answer exclude each other

  pub read_not_deep : (tree : A) (t : ℕ) → grammar.Reads g ts tree → IsDeep g ts t → ⊥
  read_not_deep tree t r d =
      let o = d.always tree (drop d.count ts) r.formed (r.spelled ∙ sym (take-append-drop d.count ts)) in
      shallow_opens (suc t) t (g.marks tree) (omega arith) (shallow_to (suc t) (g.marks tree) r.shallow) o

  pub one_syntax : (n m : ℕ) → SyntaxAt g ts n → SyntaxAt g ts m → n ≡ m
  one_syntax n m a b = ⊎_elim
      (λ lt. absurd (a.is_count.greatest m lt b.is_count.within b.is_count.viable))
      (λ le. ⊎_elim (λ lt. absurd (b.is_count.greatest n lt a.is_count.within a.is_count.viable)) (λ ge. omega arith) (cases_lt m n))
      (cases_lt n m)

  pub one_deep : (t u : ℕ) → DeepAt g ts t → DeepAt g ts u → t ≡ u
  one_deep t u a b = ⊎_elim
      (λ lt. absurd (b.first t lt a.deep))
      (λ le. ⊎_elim (λ lt. absurd (a.first u lt b.deep)) (λ ge. omega arith) (cases_lt u t))
      (cases_lt t u)

  -- ---- what an answer says

  module _ (p : Reader A) (o : Outcome g IsEmpty 0 ts (whole p 0 ts)) where
    pub whole_read : (y : A × ℕ × List Token) → whole p 0 ts ≡ Ok y → grammar.Reads g ts y.0
    whole_read y e =
        let r = got g IsEmpty 0 ts (whole p 0 ts) o y e in
        record {
          formed = r.formed;
          spelled = sym (r.text ∙ ap (λ z. texts (g.marks y.0) ++ z) (rest_empty (p 0 ts) y e) ∙ append-nil (texts (g.marks y.0)));
          placed = r.placed;
          shallow = r.shallow;
        }

    pub whole_only : (y : A × ℕ × List Token) → whole p 0 ts ≡ Ok y → IsOnly g ts y.0
    whole_only y e other f s =
        let r = got g IsEmpty 0 ts (whole p 0 ts) o y e in
        sym (r.only other [] f refl (spelled_agrees (suc (length (g.marks y.0))) other s)).bare

    pub whole_syntax : (n : ℕ) → whole p 0 ts ≡ Err (Syntax n) → SyntaxAt g ts n
    whole_syntax n e =
        let r = failed g IsEmpty 0 ts (whole p 0 ts) o n e in
        let l : length r.front ≡ n = omega (arith, r.at) in
        let taken : take n ts ≡ r.front = ap (take n) r.text ∙ take_at r.front r.back n l in
        let few : n ≤ length ts = omega (arith, l, ap length r.text, length-append r.front r.back) in
        let begins : spelling_of g r.value ≡ take n ts ++ r.more = r.begins ∙ ap (λ z. z ++ r.more) (sym taken) in
        let shallow : IsShallowTo n (g.marks r.value) = subst (λ k. IsShallowTo k (g.marks r.value)) l r.shallow in
        let none : (b : A) → g.IsFormed b → Agree (suc n) ts (spelling_of g b ++ []) → ⊥ = λ b f a. r.none b [] f refl (subst (λ k. Agree (suc k) ts (spelling_of g b ++ [])) (sym l) a) in
        let greatest : (k : ℕ) → n < k → k ≤ length ts → IsViable g (take k ts) → ⊥ =
        λ k lt within v. none v.tree v.formed (Agree-less (suc n) k ts _ (omega arith) (begins_agrees k v.tree v.more within v.spelled)) in
        record {
          none_deep = λ t d.
              let count_few : d.count ≤ n = ⊎_elim (λ lt. absurd (greatest d.count lt d.within d.viable)) (λ le. le) (cases_lt n d.count) in
              let opens = d.always r.value (drop d.count (take n ts) ++ r.more) r.formed (begins ∙ take_longer_then d.count n ts r.more count_few) in
              shallow_opens n t (g.marks r.value) (omega (arith, d.below)) shallow opens;
          unread = λ tree x. none tree x.formed (spelled_agrees (suc n) tree x.spelled);
          is_count = record { within = few; viable = record { tree = r.value; more = r.more; formed = r.formed; spelled = begins }; greatest = greatest };
        }

    pub whole_deep : (t : ℕ) → whole p 0 ts ≡ Err (TooDeep t) → DeepAt g ts t
    whole_deep t e =
        let r = deep g IsEmpty 0 ts (whole p 0 ts) o t e in
        let count = length r.front in
        let is : r.index ≡ t = omega (arith, r.at) in
        let taken : take count ts ≡ r.front = ap (take count) r.text ∙ take_at r.front r.back count refl in
        let few : count ≤ length ts = omega (arith, ap length r.text, length-append r.front r.back) in
        let begins : spelling_of g r.value ≡ take count ts ++ r.more = r.begins ∙ ap (λ z. z ++ r.more) (sym taken) in
        let opens : (b : A) (more : List Token) → g.IsFormed b → spelling_of g b ≡ take count ts ++ more → Opens t (g.marks b) =
        λ b more f s. subst (λ k. Opens k (g.marks b)) is (r.opens b [] f refl (begins_agrees count b more few s)) in
        let first : (b : A) (more : List Token) → g.IsFormed b → spelling_of g b ≡ take count ts ++ more → IsShallowTo t (g.marks b) =
        λ b more f s. subst (λ k. IsShallowTo k (g.marks b)) is (r.first b [] f refl (begins_agrees count b more few s)) in
        record {
          deep = record {
            count = count;
            within = few;
            viable = record { tree = r.value; more = r.more; formed = r.formed; spelled = begins };
            below = omega (arith, r.within, is);
            always = opens;
          };
          first = λ u lt d. ⊎_elim
              (λ longer.
              let v = d.viable in
              let o1 = d.always v.tree v.more v.formed v.spelled in
              let s1 = first v.tree (drop count (take d.count ts) ++ v.more) v.formed (v.spelled ∙ take_longer_then count d.count ts v.more (omega arith)) in
              shallow_opens t u (g.marks v.tree) lt s1 o1)
              (λ shorter.
              let o2 = d.always r.value (drop d.count (take count ts) ++ r.more) r.formed (begins ∙ take_longer_then d.count count ts r.more shorter) in
              shallow_opens t u (g.marks r.value) lt (first r.value r.more r.formed begins) o2)
              (cases_lt count d.count);
        }

-- ---- of an answer of the code

module _ {A : Type 0} (g : Grammar A) (ts : List Token) (p : Reader A) (o : Outcome g IsEmpty 0 ts (whole p 0 ts)) where
  pub said_read : (r : Result A SyntaxError) → Says r (whole p 0 ts) → IfOk r (grammar.Reads g ts)
  said_read (Ok a) s = whole_read g ts p o (a, s.0, s.1) s.2
  said_read (Err e) s = tt

  pub said_only : (r : Result A SyntaxError) → Says r (whole p 0 ts) → IfOk r (IsOnly g ts)
  said_only (Ok a) s = whole_only g ts p o (a, s.0, s.1) s.2
  said_only (Err e) s = tt

  pub said_syntax : (r : Result A SyntaxError) → Says r (whole p 0 ts) → (n : ℕ) → r ≡ Err (error.Syntax n) → SyntaxAt g ts n
  said_syntax r s n e = whole_syntax g ts p o n (subst (λ z. Says z (whole p 0 ts)) e s)

  pub said_deep : (r : Result A SyntaxError) → Says r (whole p 0 ts) → (t : ℕ) → r ≡ Err (error.TooDeep t) → DeepAt g ts t
  said_deep r s t e = whole_deep g ts p o t (subst (λ z. Says z (whole p 0 ts)) e s)

  pub said_all_read : (r : Result A SyntaxError) → Says r (whole p 0 ts) → (tree : A) → grammar.Reads g ts tree → IsOkUnless r error.OutOfMemory
  said_all_read (Ok a) s tree x = tt
  said_all_read (Err error.OutOfMemory) s tree x = refl
  said_all_read (Err (error.Syntax n)) s tree x = absurd ((whole_syntax g ts p o n s).unread tree x)
  said_all_read (Err (error.TooDeep t)) s tree x = absurd (read_not_deep g ts tree t x (whole_deep g ts p o t s).deep)

  pub said_all_syntax : (r : Result A SyntaxError) → Says r (whole p 0 ts) → (n : ℕ) → SyntaxAt g ts n → RefusesWith r (error.Syntax n)
  said_all_syntax (Ok a) s n x = absurd (x.unread a (whole_read g ts p o (a, s.0, s.1) s.2))
  said_all_syntax (Err error.OutOfMemory) s n x = inr refl
  said_all_syntax (Err (error.Syntax m)) s n x = inl (ap (λ k. Err (error.Syntax k)) (one_syntax g ts m n (whole_syntax g ts p o m s) x))
  said_all_syntax (Err (error.TooDeep t)) s n x = absurd (x.none_deep t (whole_deep g ts p o t s).deep)

  pub said_all_deep : (r : Result A SyntaxError) → Says r (whole p 0 ts) → (t : ℕ) → DeepAt g ts t → RefusesWith r (error.TooDeep t)
  said_all_deep (Ok a) s t x = absurd (read_not_deep g ts a t (whole_read g ts p o (a, s.0, s.1) s.2) x.deep)
  said_all_deep (Err error.OutOfMemory) s t x = inr refl
  said_all_deep (Err (error.Syntax n)) s t x = absurd ((whole_syntax g ts p o n s).none_deep t x.deep)
  said_all_deep (Err (error.TooDeep u)) s t x = inl (ap (λ k. Err (error.TooDeep k)) (one_deep g ts u t (whole_deep g ts p o u s) x))

  pub said_read_by : (r : Result A SyntaxError) → Says r (whole p 0 ts) → IsReadBy g ts r
  said_read_by r s = record {
    read = said_read r s;
    only = said_only r s;
    all_read = said_all_read r s;
    syntax = said_syntax r s;
    all_syntax = said_all_syntax r s;
    deep = said_deep r s;
    all_deep = said_all_deep r s;
  }

-- ---- of all lists of tokens

module _ {A : Type 0} (g : Grammar A) (p : Reader A) (o : (ts : List Token) → Outcome g IsEmpty 0 ts (whole p 0 ts)) where
  some_answer : (ts : List Token) (r : Read A) → whole p 0 ts ≡ r
      → ((tree : A) × grammar.Reads g ts tree) ⊎ (((n : ℕ) × SyntaxAt g ts n) ⊎ ((t : ℕ) × DeepAt g ts t))
  some_answer ts (Ok y) e = inl (y.0, whole_read g ts p (o ts) y e)
  some_answer ts (Err (Syntax n)) e = inr (inl (n, whole_syntax g ts p (o ts) n e))
  some_answer ts (Err (TooDeep t)) e = inr (inr (t, whole_deep g ts p (o ts) t e))

  one_tree : (ts : List Token) (tree other : A) → grammar.Reads g ts tree → grammar.Reads g ts other → (r : Read A) → whole p 0 ts ≡ r → g.bare other ≡ g.bare tree
  one_tree ts tree other a b (Ok y) e = let only = whole_only g ts p (o ts) y e in only other b.formed b.spelled ∙ sym (only tree a.formed a.spelled)
  one_tree ts tree other a b (Err (Syntax n)) e = absurd ((whole_syntax g ts p (o ts) n e).unread tree a)
  one_tree ts tree other a b (Err (TooDeep t)) e = absurd (read_not_deep g ts tree t a (whole_deep g ts p (o ts) t e).deep)

  pub decided : IsDecided g
  decided = record {
    some = λ ts. some_answer ts (whole p 0 ts) refl;
    read_not_syntax = λ ts tree n a b. b.unread tree a;
    read_not_deep = λ ts tree t a b. read_not_deep g ts tree t a b.deep;
    syntax_not_deep = λ ts n t a b. a.none_deep t b.deep;
    one_tree = λ ts tree other a b. one_tree ts tree other a b (whole p 0 ts) refl;
    one_syntax = one_syntax g;
    one_deep = one_deep g;
  }

-- ---- a reader and the end

pub whole_outcome : {A : Type 0} {g : Grammar A} {G : Follow} {p : Reader A} → Part g G p → G [] → (ts : List Token) → Outcome g IsEmpty 0 ts (whole p 0 ts)
whole_outcome {A} {g} {G} {p} o goes ts =
    let r : Reads g IsEmpty 0 ts (whole p 0 ts) = made_all
    (record { marks = λ a _. sym (append-nil (g.marks a.0)); formed = λ _ f. f.0; bare = λ _. refl })
    (λ b f. record { from = (b, tt); formed = (f, tt); is = refl })
    (pair (o.reads 0 ts) end_part (λ c after f s. subst G (sym s) goes)) in
    r.holds

pub whole_from : {A : Type 0} (p : Reader A) (ts : List Token) (a : A) (m k : ℕ) (rest last : List Token) → p 0 ts ≡ Ok (a, m, rest) → end m rest ≡ Ok (tt, k, last) → whole p 0 ts ≡ Ok (a, k, last)
whole_from p ts a m k rest last e f = ap (λ r. made first_of (seq r end)) e ∙ ap (λ z. made first_of (paired a z)) f

pub whole_stops : {A : Type 0} (p : Reader A) (ts : List Token) (a : A) (m : ℕ) (rest : List Token) → p 0 ts ≡ Ok (a, m, rest) → (e : SyntaxError) → Stops e (end m rest) → Stops e (whole p 0 ts)
whole_stops p ts a m rest e error.OutOfMemory s = tt
whole_stops p ts a m rest e (error.Syntax n) s = ap (λ r. made first_of (seq r end)) e ∙ ap (λ z. made first_of (paired a z)) s
whole_stops p ts a m rest e (error.TooDeep t) s = ap (λ r. made first_of (seq r end)) e ∙ ap (λ z. made first_of (paired a z)) s
