-- What a reader of one kind of value keeps to, whatever follows, and how readers put together keep to it.
use Rattle.std.proofs.Common.{◌≡◌, ℕ, suc, ◌+◌, ◌≤◌, ◌<◌, List, ◌++◌, length, Ok, Err, refl, sym, ap, ◌∙◌, subst, arith, append_assoc, length-append, ⊎_elim}
use Rattle.std.proofs.lemmas.Bool.{cases_lt}
use Rattle.ep_tree.specs.Grammar.{Grammar}
use Rattle.ep_tree.specs.Marks.{Mark, texts, PlacedFrom, IsShallow}
use Rattle.ep_reader.specs.Reading.{Token, Fault, Syntax, TooDeep, Read, Reader, paired, seq, made}
use Rattle.ep_reader.proofs.MarkLists.{Agree, Agree-less, Agree-behind, outline, outline-append, texts-same, length-same, PlacedFrom-append, IsShallow-same, IsShallow-append, IsShallowTo, IsShallowTo-behind, IsShallowTo-more, Opens, Opens-behind, Opens-more, Opens-within}
use Rattle.ep_tree.proofs.CallerLemmas.{texts-append, length-texts}

-- what may follow a value
abbrev pub Follow : Type 1
Follow = List Token → Type 0

-- equal but for token numbers, and so spelled alike
pub record IsSame {A : Type 0} (g : Grammar A) (a b : A) : Type 0 where
  pub bare : g.bare a ≡ g.bare b
  pub outlines : outline (g.marks a) ≡ outline (g.marks b)

-- From place n the tokens begin with a value, behind which `rest` is left at place m. Each value that
-- begins so, with one token more, is the same.
pub record IsRead {A : Type 0} (g : Grammar A) (F : Follow) (n : ℕ) (ts : List Token) (a : A) (m : ℕ) (rest : List Token) : Type 0 where
  pub text : ts ≡ texts (g.marks a) ++ rest
  pub at : m ≡ n + length (g.marks a)
  pub placed : PlacedFrom n (g.marks a)
  pub formed : g.IsFormed a
  pub shallow : IsShallow (g.marks a)
  pub only : (b : A) (more : List Token) → g.IsFormed b → F more → Agree (suc (length (g.marks a))) ts (texts (g.marks b) ++ more) → IsSame g a b

-- Up to place m a value may begin with the tokens, and with one token more none does.
pub record IsRefused {A : Type 0} (g : Grammar A) (F : Follow) (n : ℕ) (ts : List Token) (m : ℕ) : Type 0 where
  pub front : List Token
  pub back : List Token
  pub text : ts ≡ front ++ back
  pub at : m ≡ n + length front
  pub none : (b : A) (more : List Token) → g.IsFormed b → F more → Agree (suc (length front)) ts (texts (g.marks b) ++ more) → ⊥
  pub value : A
  pub more : List Token
  pub formed : g.IsFormed value
  pub begins : texts (g.marks value) ≡ front ++ more
  pub shallow : IsShallowTo (length front) (g.marks value)

-- Some value begins with the tokens `front`. In each that does, a formula of nesting 65 begins at place m, and
-- none before.
pub record IsTooDeep {A : Type 0} (g : Grammar A) (F : Follow) (n : ℕ) (ts : List Token) (m : ℕ) : Type 0 where
  pub front : List Token
  pub back : List Token
  pub text : ts ≡ front ++ back
  pub index : ℕ
  pub within : index < length front
  pub at : m ≡ n + index
  pub opens : (b : A) (more : List Token) → g.IsFormed b → F more → Agree (length front) ts (texts (g.marks b) ++ more) → Opens index (g.marks b)
  pub first : (b : A) (more : List Token) → g.IsFormed b → F more → Agree (length front) ts (texts (g.marks b) ++ more) → IsShallowTo index (g.marks b)
  pub value : A
  pub more : List Token
  pub formed : g.IsFormed value
  pub begins : texts (g.marks value) ≡ front ++ more

abbrev pub Fails : {A : Type 0} → Grammar A → Follow → ℕ → List Token → Fault → Type 0
Fails g F n ts (Syntax m) = IsRefused g F n ts m
Fails g F n ts (TooDeep m) = IsTooDeep g F n ts m

abbrev pub Outcome : {A : Type 0} → Grammar A → Follow → ℕ → List Token → Read A → Type 0
Outcome g F n ts (Ok x) = IsRead g F n ts x.0 x.1 x.2
Outcome g F n ts (Err e) = Fails g F n ts e

-- ---- one value behind another

abbrev pub both : {A B : Type 0} → Grammar A → Grammar B → Grammar (A × B)
both g h = record {
  marks = λ p. g.marks p.0 ++ h.marks p.1;
  IsFormed = λ p. g.IsFormed p.0 × h.IsFormed p.1;
  bare = λ p. (g.bare p.0, h.bare p.1);
}

both_same : {A B : Type 0} (g : Grammar A) (h : Grammar B) (p q : A × B) → IsSame g p.0 q.0 → IsSame h p.1 q.1 → IsSame (both g h) p q
both_same g h p q s r = record {
  bare = ap (λ x. (x, h.bare p.1)) s.bare ∙ ap (λ y. (g.bare q.0, y)) r.bare;
  outlines = outline-append (g.marks p.0) (h.marks p.1) ∙ ap (λ x. x ++ outline (h.marks p.1)) s.outlines
      ∙ ap (λ y. outline (g.marks q.0) ++ y) r.outlines ∙ sym (outline-append (g.marks q.0) (h.marks q.1));
}

-- the tokens of a pair, before something
pub both_then : (xs ys : List Mark) (more : List Token) → texts (xs ++ ys) ++ more ≡ texts xs ++ (texts ys ++ more)
both_then xs ys more = ap (λ z. z ++ more) (texts-append xs ys) ∙ append_assoc (texts xs) (texts ys) more

-- the tokens of the first, and what the second begins with
both_begins : (xs ys : List Mark) (front more : List Token) → texts ys ≡ front ++ more → texts (xs ++ ys) ≡ (texts xs ++ front) ++ more
both_begins xs ys front more e = texts-append xs ys ∙ ap (λ z. texts xs ++ z) e ∙ sym (append_assoc (texts xs) front more)

first_begins : (xs ys : List Mark) (front more : List Token) → texts xs ≡ front ++ more → texts (xs ++ ys) ≡ front ++ (more ++ texts ys)
first_begins xs ys front more e = texts-append xs ys ∙ ap (λ z. z ++ texts ys) e ∙ append_assoc front more (texts ys)

length-behind : (xs : List Mark) (front : List Token) → length (texts xs ++ front) ≡ length xs + length front
length-behind xs front = length-append (texts xs) front ∙ ap (λ z. z + length front) (length-texts xs)

module _ {A B : Type 0} (g : Grammar A) (h : Grammar B) (G F : Follow) (n : ℕ) (ts : List Token)
    (goes_on : (c : B) (more : List Token) → h.IsFormed c → F more → G (texts (h.marks c) ++ more)) where
  -- the first of a pair is as read, if the pair begins as the tokens do for a token more than the first has
  first_same : (a : A) (m : ℕ) (rest : List Token) → IsRead g G n ts a m rest → (k : ℕ) → 0 < k → (p : A × B) (more : List Token)
      → (both g h).IsFormed p → F more → Agree (length (g.marks a) + k) ts (texts ((both g h).marks p) ++ more)
      → IsSame g a p.0 × Agree k rest (texts (h.marks p.1) ++ more)
  first_same a m rest r k l p more f s agree =
      let whole : Agree (length (g.marks a) + k) ts (texts (g.marks p.0) ++ (texts (h.marks p.1) ++ more)) =
      subst (λ z. Agree (length (g.marks a) + k) ts z) (both_then (g.marks p.0) (h.marks p.1) more) agree in
      let is : IsSame g a p.0 = r.only p.0 (texts (h.marks p.1) ++ more) f.0 (goes_on p.1 more f.1 s)
      (Agree-less (suc (length (g.marks a))) (length (g.marks a) + k) ts _ (omega arith) whole) in
      let w1 : Agree (length (g.marks a) + k) (texts (g.marks a) ++ rest) (texts (g.marks p.0) ++ (texts (h.marks p.1) ++ more)) =
      subst (λ z. Agree (length (g.marks a) + k) z (texts (g.marks p.0) ++ (texts (h.marks p.1) ++ more))) r.text whole in
      let w2 : Agree (length (g.marks a) + k) (texts (g.marks a) ++ rest) (texts (g.marks a) ++ (texts (h.marks p.1) ++ more)) =
      subst (λ z. Agree (length (g.marks a) + k) (texts (g.marks a) ++ rest) (z ++ (texts (h.marks p.1) ++ more))) (sym (texts-same (g.marks a) (g.marks p.0) is.outlines)) w1 in
      let w3 : Agree (length (texts (g.marks a)) + k) (texts (g.marks a) ++ rest) (texts (g.marks a) ++ (texts (h.marks p.1) ++ more)) =
      subst (λ z. Agree (z + k) (texts (g.marks a) ++ rest) (texts (g.marks a) ++ (texts (h.marks p.1) ++ more))) (sym (length-texts (g.marks a))) w2 in
      (is, Agree-behind (texts (g.marks a)) k rest _ w3)

  paired_read : (a : A) (m : ℕ) (rest : List Token) → IsRead g G n ts a m rest → (y : B × ℕ × List Token) → IsRead h F m rest y.0 y.1 y.2
      → IsRead (both g h) F n ts (a, y.0) y.1 y.2
  paired_read a m rest r y o = record {
    text = r.text ∙ ap (λ z. texts (g.marks a) ++ z) o.text ∙ sym (both_then (g.marks a) (h.marks y.0) y.2);
    at = omega (arith, r.at, o.at, length-append (g.marks a) (h.marks y.0));
    placed = PlacedFrom-append n (g.marks a) (h.marks y.0) r.placed (subst (λ k. PlacedFrom k (h.marks y.0)) r.at o.placed);
    formed = (r.formed, o.formed);
    shallow = IsShallow-append (g.marks a) (h.marks y.0) r.shallow o.shallow;
    only = λ p more f s agree.
        let l : suc (length (g.marks a ++ h.marks y.0)) ≡ length (g.marks a) + suc (length (h.marks y.0)) = omega (arith, length-append (g.marks a) (h.marks y.0)) in
        let is = first_same a m rest r (suc (length (h.marks y.0))) (omega arith) p more f s (subst (λ k. Agree k ts (texts ((both g h).marks p) ++ more)) l agree) in
        both_same g h (a, y.0) p is.0 (o.only p.1 more f.1 s is.1);
  }

  paired_refused : (a : A) (m : ℕ) (rest : List Token) → IsRead g G n ts a m rest → (k : ℕ) → IsRefused h F m rest k → IsRefused (both g h) F n ts k
  paired_refused a m rest r k o = record {
    front = texts (g.marks a) ++ o.front;
    back = o.back;
    text = r.text ∙ ap (λ z. texts (g.marks a) ++ z) o.text ∙ sym (append_assoc (texts (g.marks a)) o.front o.back);
    at = omega (arith, r.at, o.at, length-behind (g.marks a) o.front);
    none = λ p more f s agree.
        let l : suc (length (texts (g.marks a) ++ o.front)) ≡ length (g.marks a) + suc (length o.front) = omega (arith, length-behind (g.marks a) o.front) in
        let is = first_same a m rest r (suc (length o.front)) (omega arith) p more f s (subst (λ k. Agree k ts (texts ((both g h).marks p) ++ more)) l agree) in
        o.none p.1 more f.1 s is.1;
    value = (a, o.value);
    more = o.more;
    formed = (r.formed, o.formed);
    begins = both_begins (g.marks a) (h.marks o.value) o.front o.more o.begins;
    shallow = subst (λ k. IsShallowTo k (g.marks a ++ h.marks o.value)) (sym (length-behind (g.marks a) o.front))
        (IsShallowTo-behind (g.marks a) (length o.front) (h.marks o.value) r.shallow o.shallow);
  }

  -- what the second of a pair begins with, if the first is as read
  second_of : (a : A) (m : ℕ) (rest : List Token) → IsRead g G n ts a m rest → (k : ℕ) (o : IsTooDeep h F m rest k) (p : A × B) (more : List Token)
      → (both g h).IsFormed p → F more → Agree (length (texts (g.marks a) ++ o.front)) ts (texts ((both g h).marks p) ++ more)
      → IsSame g a p.0 × Agree (length o.front) rest (texts (h.marks p.1) ++ more)
  second_of a m rest r k o p more f s agree =
      first_same a m rest r (length o.front) (omega (arith, o.within)) p more f s
      (subst (λ k. Agree k ts (texts ((both g h).marks p) ++ more)) (length-behind (g.marks a) o.front) agree)

  paired_deep : (a : A) (m : ℕ) (rest : List Token) → IsRead g G n ts a m rest → (k : ℕ) → IsTooDeep h F m rest k → IsTooDeep (both g h) F n ts k
  paired_deep a m rest r k o = record {
    front = texts (g.marks a) ++ o.front;
    back = o.back;
    text = r.text ∙ ap (λ z. texts (g.marks a) ++ z) o.text ∙ sym (append_assoc (texts (g.marks a)) o.front o.back);
    index = length (g.marks a) + o.index;
    within = omega (arith, o.within, length-behind (g.marks a) o.front);
    at = omega (arith, r.at, o.at);
    opens = λ p more f s agree.
        let is = second_of a m rest r k o p more f s agree in
        let l : length (g.marks p.0) ≡ length (g.marks a) = sym (length-same (g.marks a) (g.marks p.0) is.0.outlines) in
        subst (λ z. Opens (z + o.index) (g.marks p.0 ++ h.marks p.1)) l (Opens-behind (g.marks p.0) o.index (h.marks p.1) (o.opens p.1 more f.1 s is.1));
    first = λ p more f s agree.
        let is = second_of a m rest r k o p more f s agree in
        let l : length (g.marks p.0) ≡ length (g.marks a) = sym (length-same (g.marks a) (g.marks p.0) is.0.outlines) in
        let sh : IsShallow (g.marks p.0) = IsShallow-same (g.marks a) (g.marks p.0) is.0.outlines r.shallow in
        subst (λ z. IsShallowTo (z + o.index) (g.marks p.0 ++ h.marks p.1)) l (IsShallowTo-behind (g.marks p.0) o.index (h.marks p.1) sh (o.first p.1 more f.1 s is.1));
    value = (a, o.value);
    more = o.more;
    formed = (r.formed, o.formed);
    begins = both_begins (g.marks a) (h.marks o.value) o.front o.more o.begins;
  }

  paired_outcome : (a : A) (m : ℕ) (rest : List Token) → IsRead g G n ts a m rest → (y : Read B) → Outcome h F m rest y
      → Outcome (both g h) F n ts (paired a y)
  paired_outcome a m rest r (Ok y) o = paired_read a m rest r y o
  paired_outcome a m rest r (Err (Syntax k)) o = paired_refused a m rest r k o
  paired_outcome a m rest r (Err (TooDeep k)) o = paired_deep a m rest r k o

  -- `c` is some value that may stand second
  pub seq_outcome : (r : Read A) → Outcome g G n ts r → (q : Reader B) → ((x : A × ℕ × List Token) → r ≡ Ok x → Outcome h F x.1 x.2 (q x.1 x.2))
      → (c : B) → h.IsFormed c → Outcome (both g h) F n ts (seq r q)
  seq_outcome (Ok x) o q next c f = paired_outcome x.0 x.1 x.2 o (q x.1 x.2) (next x refl)
  seq_outcome (Err (Syntax m)) o q next c f = record {
    front = o.front;
    back = o.back;
    text = o.text;
    at = o.at;
    none = λ p more f s agree. o.none p.0 (texts (h.marks p.1) ++ more) f.0 (goes_on p.1 more f.1 s)
        (subst (λ z. Agree (suc (length o.front)) ts z) (both_then (g.marks p.0) (h.marks p.1) more) agree);
    value = (o.value, c);
    more = o.more ++ texts (h.marks c);
    formed = (o.formed, f);
    begins = first_begins (g.marks o.value) (h.marks c) o.front o.more o.begins;
    shallow = IsShallowTo-more (length o.front) (g.marks o.value) (h.marks c)
        (omega (arith, ap length o.begins, length-append o.front o.more, length-texts (g.marks o.value))) o.shallow;
  }
  seq_outcome (Err (TooDeep m)) o q next c f = record {
    front = o.front;
    back = o.back;
    text = o.text;
    index = o.index;
    within = o.within;
    at = o.at;
    opens = λ p more f s agree. Opens-more o.index (g.marks p.0) (h.marks p.1) (o.opens p.0 (texts (h.marks p.1) ++ more) f.0 (goes_on p.1 more f.1 s)
        (subst (λ z. Agree (length o.front) ts z) (both_then (g.marks p.0) (h.marks p.1) more) agree));
    first = λ p more f s agree.
        let a = subst (λ z. Agree (length o.front) ts z) (both_then (g.marks p.0) (h.marks p.1) more) agree in
        let go = goes_on p.1 more f.1 s in
        let l = Opens-within o.index (g.marks p.0) (o.opens p.0 (texts (h.marks p.1) ++ more) f.0 go a) in
        IsShallowTo-more o.index (g.marks p.0) (h.marks p.1) (omega (arith, l)) (o.first p.0 (texts (h.marks p.1) ++ more) f.0 go a);
    value = (o.value, c);
    more = o.more ++ texts (h.marks c);
    formed = (o.formed, f);
    begins = first_begins (g.marks o.value) (h.marks c) o.front o.more o.begins;
  }

-- ---- values made of others

-- `f` makes the values of one kind from those of another that are spelled the same
pub record Makes {A B : Type 0} (g : Grammar A) (h : Grammar B) (f : A → B) : Type 0 where
  pub marks : (a : A) → g.IsFormed a → h.marks (f a) ≡ g.marks a
  pub formed : (a : A) → g.IsFormed a → h.IsFormed (f a)
  pub bare : (a : A) → h.bare (f a) ≡ f (g.bare a)

-- what b is made of
pub record Made {A B : Type 0} (g : Grammar A) (f : A → B) (b : B) : Type 0 where
  pub from : A
  pub formed : g.IsFormed from
  pub is : f from ≡ b

module _ {A B : Type 0} (g : Grammar A) (h : Grammar B) (F : Follow) (n : ℕ) (ts : List Token) (f : A → B) (makes : Makes g h f) where
  made_same : (a b : A) → g.IsFormed a → g.IsFormed b → IsSame g a b → IsSame h (f a) (f b)
  made_same a b fa fb s = record {
    bare = makes.bare a ∙ ap f s.bare ∙ sym (makes.bare b);
    outlines = ap outline (makes.marks a fa) ∙ s.outlines ∙ sym (ap outline (makes.marks b fb));
  }

  -- the tokens agree with those of what the value is made of
  from_agrees : (k : ℕ) (b : B) (more : List Token) (m : Made g f b) → Agree k ts (texts (h.marks b) ++ more) → Agree k ts (texts (g.marks m.from) ++ more)
  from_agrees k b more m a =
      subst (λ z. Agree k ts (texts z ++ more)) (makes.marks m.from m.formed) (subst (λ z. Agree k ts (texts (h.marks z) ++ more)) (sym m.is) a)

  from_marks : (b : B) (m : Made g f b) → g.marks m.from ≡ h.marks b
  from_marks b m = sym (makes.marks m.from m.formed) ∙ ap h.marks m.is

  -- `j` tokens are enough to tell that a value is made of one that is read here, and as many are read before an answer
  pub made_outcome : (r : Read A) → Outcome g F n ts r → (j : ℕ)
      → ((x : A × ℕ × List Token) → r ≡ Ok x → n + j ≤ x.1) → ((m : ℕ) → r ≡ Err (Syntax m) → n + j ≤ m)
      → ((m : ℕ) → r ≡ Err (TooDeep m) → (d : IsTooDeep g F n ts m) → j < length d.front)
      → ((b : B) (more : List Token) → h.IsFormed b → F more → Agree (suc j) ts (texts (h.marks b) ++ more) → Made g f b)
      → Outcome h F n ts (made f r)
  made_outcome (Ok x) o j far fars fard back = record {
    text = o.text ∙ ap (λ z. texts z ++ x.2) (sym (makes.marks x.0 o.formed));
    at = o.at ∙ ap (λ z. n + length z) (sym (makes.marks x.0 o.formed));
    placed = subst (λ z. PlacedFrom n z) (sym (makes.marks x.0 o.formed)) o.placed;
    formed = makes.formed x.0 o.formed;
    shallow = subst IsShallow (sym (makes.marks x.0 o.formed)) o.shallow;
    only = λ b more fb s agree.
        let l : n + j ≤ x.1 = far x refl in
        let a : Agree (suc (length (g.marks x.0))) ts (texts (h.marks b) ++ more) = subst (λ z. Agree (suc (length z)) ts (texts (h.marks b) ++ more)) (makes.marks x.0 o.formed) agree in
        let m = back b more fb s (Agree-less (suc j) (suc (length (g.marks x.0))) ts _ (omega (arith, o.at)) a) in
        subst (λ z. IsSame h (f x.0) z) m.is (made_same x.0 m.from o.formed m.formed (o.only m.from more m.formed s (from_agrees (suc (length (g.marks x.0))) b more m a)));
  }
  made_outcome (Err (Syntax m)) o j far fars fard back = record {
    front = o.front;
    back = o.back;
    text = o.text;
    at = o.at;
    none = λ b more fb s agree.
        let l : n + j ≤ m = fars m refl in
        let w = back b more fb s (Agree-less (suc j) (suc (length o.front)) ts _ (omega (arith, o.at)) agree) in
        o.none w.from more w.formed s (from_agrees (suc (length o.front)) b more w agree);
    value = f o.value;
    more = o.more;
    formed = makes.formed o.value o.formed;
    begins = ap texts (makes.marks o.value o.formed) ∙ o.begins;
    shallow = subst (λ z. IsShallowTo (length o.front) z) (sym (makes.marks o.value o.formed)) o.shallow;
  }
  made_outcome (Err (TooDeep m)) o j far fars fard back = record {
    front = o.front;
    back = o.back;
    text = o.text;
    index = o.index;
    within = o.within;
    at = o.at;
    opens = λ b more fb s agree.
        let w = back b more fb s (Agree-less (suc j) (length o.front) ts _ (fard m refl o) agree) in
        subst (λ z. Opens o.index z) (from_marks b w) (o.opens w.from more w.formed s (from_agrees (length o.front) b more w agree));
    first = λ b more fb s agree.
        let w = back b more fb s (Agree-less (suc j) (length o.front) ts _ (fard m refl o) agree) in
        subst (λ z. IsShallowTo o.index z) (from_marks b w) (o.first w.from more w.formed s (from_agrees (length o.front) b more w agree));
    value = f o.value;
    more = o.more;
    formed = makes.formed o.value o.formed;
    begins = ap texts (makes.marks o.value o.formed) ∙ o.begins;
  }

-- ---- what an outcome says

pub got : {A : Type 0} (g : Grammar A) (F : Follow) (n : ℕ) (ts : List Token) (r : Read A) → Outcome g F n ts r
    → (x : A × ℕ × List Token) → r ≡ Ok x → IsRead g F n ts x.0 x.1 x.2
got g F n ts r o x e = subst (λ z. Outcome g F n ts z) e o

pub failed : {A : Type 0} (g : Grammar A) (F : Follow) (n : ℕ) (ts : List Token) (r : Read A) → Outcome g F n ts r
    → (m : ℕ) → r ≡ Err (Syntax m) → IsRefused g F n ts m
failed g F n ts r o m e = subst (λ z. Outcome g F n ts z) e o

pub deep : {A : Type 0} (g : Grammar A) (F : Follow) (n : ℕ) (ts : List Token) (r : Read A) → Outcome g F n ts r
    → (m : ℕ) → r ≡ Err (TooDeep m) → IsTooDeep g F n ts m
deep g F n ts r o m e = subst (λ z. Outcome g F n ts z) e o

-- fewer may follow
pub narrow : {A : Type 0} (g : Grammar A) (F G : Follow) (n : ℕ) (ts : List Token) → ((more : List Token) → G more → F more)
    → (r : Read A) → Outcome g F n ts r → Outcome g G n ts r
narrow g F G n ts l (Ok x) o = record { text = o.text; at = o.at; placed = o.placed; formed = o.formed; shallow = o.shallow; only = λ b more f s a. o.only b more f (l more s) a }
narrow g F G n ts l (Err (Syntax m)) o = record { front = o.front; back = o.back; text = o.text; at = o.at; none = λ b more f s a. o.none b more f (l more s) a; value = o.value; more = o.more; formed = o.formed; begins = o.begins; shallow = o.shallow }
narrow g F G n ts l (Err (TooDeep m)) o = record { front = o.front; back = o.back; text = o.text; index = o.index; within = o.within; at = o.at; opens = λ b more f s a. o.opens b more f (l more s) a; first = λ b more f s a. o.first b more f (l more s) a; value = o.value; more = o.more; formed = o.formed; begins = o.begins }

-- the first j tokens can begin some value, so no refusal comes before them
pub far_refused : {A : Type 0} (g : Grammar A) (F : Follow) (n : ℕ) (ts : List Token) (m j : ℕ) → IsRefused g F n ts m
    → (b : A) (after : List Token) → g.IsFormed b → F after → Agree j ts (texts (g.marks b) ++ after) → n + j ≤ m
far_refused g F n ts m j o b after f s a =
    ⊎_elim (λ lt. absurd (o.none b after f s (Agree-less (suc (length o.front)) j ts _ (omega arith) a))) (λ le. omega (arith, o.at)) (cases_lt (length o.front) j)

-- the same, where the value has no deep formula there
pub far_deep : {A : Type 0} (g : Grammar A) (F : Follow) (n : ℕ) (ts : List Token) (m j : ℕ) (o : IsTooDeep g F n ts m)
    → (b : A) (after : List Token) → g.IsFormed b → F after → Agree j ts (texts (g.marks b) ++ after) → ((i : ℕ) → i < j → Opens i (g.marks b) → ⊥) → j < length o.front
far_deep g F n ts m j o b after f s a shut =
    ⊎_elim (λ lt. lt)
    (λ le. absurd (shut o.index (omega (arith, o.within)) (o.opens b after f s (Agree-less (length o.front) j ts _ (omega arith) a))))
    (cases_lt j (length o.front))
