-- The laws as records, so that antt finds their arguments, and the readers of one token.
use Rattle.std.proofs.Common.{◌≡◌, ℕ, suc, ◌+◌, ◌≤◌, Bool, true, false, cond, IfSome, List, [], ◌∷◌, ◌++◌, length, Option, Some, None, Ok, Err, refl, sym, ap, ◌∙◌, arith, eq-eqb}
use Rattle.std.specs.Cmp.Lexicographic.{same_text}
use Rattle.std.specs.Str.{bytes_eq}
use Rattle.std.proofs.lemmas.Bool.{false≢true}
use Rattle.ep_tree.specs.declared.terminal.Terminal.{Terminal}
use Rattle.ep_tree.specs.declared.tree.Name.{Name}
use Rattle.ep_tree.specs.Bare.{bare_name}
use Rattle.ep_tree.specs.Formed.{IsFormedName}
use Rattle.ep_tree.specs.Grammar.{Grammar}
use Rattle.ep_tree.specs.Marks.{Mark, fixed, held, opening, texts}
use Rattle.ep_reader.specs.Reading.{Token, Read, Reader, seq, made, begins, heads, key, name, name_begins}
use Rattle.ep_tree.specs.Terminals.{is}
use Rattle.ep_tree.specs.Terminals.{text_of, is_name}
use Rattle.ep_reader.proofs.MarkLists.{Agree, unnumbered, IsShallowTo, shallow_opens}
use Rattle.ep_reader.proofs.Laws.{Follow, IsRead, IsRefused, Outcome, both, seq_outcome, Makes, Made, made_outcome, got, failed, narrow, far_refused, far_deep}

pub record Reads {A : Type 0} (g : Grammar A) (F : Follow) (n : ℕ) (ts : List Token) (r : Read A) : Type 0 where
  pub holds : Outcome g F n ts r

-- a reader that keeps to g wherever it begins, and some value
pub record Part {A : Type 0} (g : Grammar A) (F : Follow) (p : Reader A) : Type 0 where
  pub reads : (n : ℕ) (ts : List Token) → Reads g F n ts (p n ts)
  pub value : A
  pub formed : g.IsFormed value

abbrev pub Any : Follow
Any ts = Unit {0}

abbrev pub Lacks : (Token → Bool) → Follow
Lacks test ts = heads test ts ≡ false

abbrev pub Next : Terminal → Follow
Next t ts = begins t ts ≡ true

-- ---- put together

pub pair : {A B : Type 0} {g : Grammar A} {h : Grammar B} {G F : Follow} {n : ℕ} {ts : List Token} {r : Read A} {q : Reader B}
    → Reads g G n ts r → Part h F q → ((c : B) (after : List Token) → h.IsFormed c → F after → G (texts (h.marks c) ++ after))
    → Reads (both g h) F n ts (seq r q)
pair {A} {B} {g} {h} {G} {F} {n} {ts} {r} {q} o p goes =
    record { holds = seq_outcome g h G F n ts goes r o.holds q (λ x _. (p.reads x.1 x.2).holds) p.value p.formed }

-- where anything may follow the first
pub then : {A B : Type 0} {g : Grammar A} {h : Grammar B} {F : Follow} {n : ℕ} {ts : List Token} {r : Read A} {q : Reader B}
    → Reads g Any n ts r → Part h F q → Reads (both g h) F n ts (seq r q)
then o p = pair o p (λ _ _ _ _. tt)

pub made_by : {A B : Type 0} {g : Grammar A} {h : Grammar B} {F : Follow} {n : ℕ} {ts : List Token} {f : A → B} {r : Read A}
    → Makes g h f → Reads g F n ts r
    → ((b : B) (more : List Token) → h.IsFormed b → F more → Agree 1 ts (texts (h.marks b) ++ more) → Made g f b)
    → Reads h F n ts (made f r)
made_by {A} {B} {g} {h} {F} {n} {ts} {f} {r} makes o back = record {
  holds = made_outcome g h F n ts f makes r o.holds 0 (λ x e. omega (arith, (got g F n ts r o.holds x e).at)) (λ m e. omega (arith, (failed g F n ts r o.holds m e).at))
      (λ m e d. omega (arith, d.within)) back;
}

-- each value is made so
pub made_all : {A B : Type 0} {g : Grammar A} {h : Grammar B} {F : Follow} {n : ℕ} {ts : List Token} {f : A → B} {r : Read A}
    → Makes g h f → ((b : B) → h.IsFormed b → Made g f b) → Reads g F n ts r → Reads h F n ts (made f r)
made_all makes back o = made_by makes o (λ b _ fb _ _. back b fb)

pub made-id : {A : Type 0} (r : Read A) → made (λ a. a) r ≡ r
made-id (Ok x) = refl
made-id (Err e) = refl

pub either : {A : Type 0} {g : Grammar A} {F : Follow} {n : ℕ} {ts : List Token} (b : Bool) {x y : Read A}
    → (b ≡ true → Reads g F n ts x) → (b ≡ false → Reads g F n ts y) → Reads g F n ts (cond b x y)
either true p q = p refl
either false p q = q refl

pub fewer : {A : Type 0} {g : Grammar A} {F G : Follow} {n : ℕ} {ts : List Token} {r : Read A}
    → ((after : List Token) → G after → F after) → Reads g F n ts r → Reads g G n ts r
fewer {A} {g} {F} {G} {n} {ts} {r} l o = record { holds = narrow g F G n ts l r o.holds }

-- where anything may follow, so may less
pub less : {A : Type 0} {g : Grammar A} {F : Follow} {n : ℕ} {ts : List Token} {r : Read A} → Reads g Any n ts r → Reads g F n ts r
less o = fewer (λ _ _. tt) o

pub less_part : {A : Type 0} {g : Grammar A} {F : Follow} {p : Reader A} → Part g Any p → Part g F p
less_part p = record { reads = λ n ts. less (p.reads n ts); value = p.value; formed = p.formed }

-- ---- terminals

bytes_eq-same : (xs : List ℕ) → bytes_eq xs xs ≡ true
bytes_eq-same [] = refl
bytes_eq-same (x ∷ xs) = rw (eq-eqb x x refl, bytes_eq-same xs) refl

pub is-true : (t : Terminal) (token : Token) → is t token ≡ true → token ≡ text_of t
is-true t token e = same_text token (text_of t) (sym e)

pub is-text_of : (t : Terminal) → is t (text_of t) ≡ true
is-text_of t = bytes_eq-same (text_of t)

-- the first tokens are not the same
pub differs : (t : Terminal) (token : Token) → is t token ≡ false → token ≡ text_of t → ⊥
differs t token e a = false≢true (sym e ∙ ap (is t) a ∙ is-text_of t)

-- what comes next begins with no token that passes the test
pub next_lacks : (t : Terminal) (test : Token → Bool) → test (text_of t) ≡ false → (ts : List Token) → Next t ts → Lacks test ts
next_lacks t test e [] s = refl
next_lacks t test e (u ∷ us) s = ap test (is-true t u s) ∙ e

-- A terminal's mark, which may hold its place and have a nesting.
pub record IsMark (t : Terminal) (mark : ℕ → Mark) : Type 0 where
  pub text : (place : ℕ) → (mark place).text ≡ text_of t
  pub number : (place : ℕ) → IfSome (mark place).number (λ token. token ≡ place)
  pub nesting : (place : ℕ) → IfSome (mark place).nesting (λ nesting. nesting ≤ 64)
  pub alike : (place other : ℕ) → unnumbered (mark place) ≡ unnumbered (mark other)

abbrev pub one : (ℕ → Mark) → Grammar ℕ
one mark = record { marks = λ place. mark place ∷ []; IsFormed = λ _. Unit {0}; bare = λ _. 0 }

module _ (t : Terminal) (mark : ℕ → Mark) (m : IsMark t mark) where
  key_refused : (n : ℕ) (ts : List Token) → begins t ts ≡ false → IsRefused (one mark) Any n ts n
  key_refused n ts e = record {
    front = [];
    back = ts;
    text = refl;
    at = omega arith;
    none = λ b more f s a. by_first ts e b more a;
    value = 0;
    more = (mark 0).text ∷ [];
    formed = tt;
    begins = refl;
    shallow = tt;
  }
    where
      by_first : (ts : List Token) → begins t ts ≡ false → (b : ℕ) (more : List Token) → Agree 1 ts ((mark b).text ∷ more) → ⊥
      by_first [] e b more a = a
      by_first (u ∷ us) e b more a = differs t u e (a.0 ∙ m.text b)

  key_read : (n : ℕ) (ts : List Token) → begins t ts ≡ true → IsRead (one mark) Any n ts n (n + 1) (Rattle.std.proofs.Common.drop 1 ts)
  key_read n [] e = absurd (false≢true e)
  key_read n (u ∷ us) e = record {
    text = ap (λ z. z ∷ us) (is-true t u e ∙ sym (m.text n));
    at = refl;
    placed = (m.number n, tt);
    formed = tt;
    shallow = (m.nesting n, tt);
    only = λ b more f s a. record { bare = refl; outlines = ap (λ z. z ∷ []) (m.alike n b) };
  }

  pub key_reads : (n : ℕ) (ts : List Token) → Reads (one mark) Any n ts (key t n ts)
  key_reads n ts = either (begins t ts) (λ e. record { holds = key_read n ts e }) (λ e. record { holds = key_refused n ts e })

  pub key_part : Part (one mark) Any (key t)
  key_part = record { reads = key_reads; value = 0; formed = tt }

-- a terminal whose place no tree holds
abbrev pub plain : Terminal → Grammar ℕ
plain t = one (λ _. fixed t)

plain_mark : (t : Terminal) → IsMark t (λ _. fixed t)
plain_mark t = record { text = λ _. refl; number = λ _. tt; nesting = λ _. tt; alike = λ _ _. refl }

pub plain_reads : (t : Terminal) (n : ℕ) (ts : List Token) → Reads (plain t) Any n ts (key t n ts)
plain_reads t = key_reads t (λ _. fixed t) (plain_mark t)

pub plain_part : {F : Follow} (t : Terminal) → Part (plain t) F (key t)
plain_part t = less_part (key_part t (λ _. fixed t) (plain_mark t))

-- one whose place the tree holds
abbrev pub placed : Terminal → Grammar ℕ
placed t = one (λ place. held place t)

pub placed_reads : (t : Terminal) (n : ℕ) (ts : List Token) → Reads (placed t) Any n ts (key t n ts)
placed_reads t = key_reads t (λ place. held place t) (record { text = λ _. refl; number = λ _. refl; nesting = λ _. tt; alike = λ _ _. refl })

-- one that begins a formula
abbrev pub opened : ℕ → Terminal → Grammar ℕ
opened k t = one (λ place. opening k place t)

pub opened_reads : (k : ℕ) → k ≤ 64 → (t : Terminal) (n : ℕ) (ts : List Token) → Reads (opened k t) Any n ts (key t n ts)
opened_reads k l t = key_reads t (λ place. opening k place t) (record { text = λ _. refl; number = λ _. refl; nesting = λ _. l; alike = λ _ _. refl })

-- ---- names

abbrev pub title : Option ℕ → Name → Mark
title nesting n = record { number = Some n.token; text = n.text; nesting = nesting }

abbrev pub titles : Option ℕ → Grammar Name
titles nesting = record { marks = λ n. title nesting n ∷ []; IsFormed = IsFormedName; bare = bare_name }

-- some name
abbrev pub some_name : Name
some_name = record { token = 0; text = 120 ∷ [] }

pub title_part : (nesting : Option ℕ) → IfSome nesting (λ k. k ≤ 64) → Part (titles nesting) Any name
title_part nesting l = record { reads = λ n ts. either (name_begins ts) (λ e. record { holds = name_read n ts e }) (λ e. record { holds = name_refused n ts e }); value = some_name; formed = refl }
  where
    name_refused : (n : ℕ) (ts : List Token) → name_begins ts ≡ false → IsRefused (titles nesting) Any n ts n
    name_refused n ts e = record {
      front = [];
      back = ts;
      text = refl;
      at = omega arith;
      none = λ b more f s a. by_first ts e b more f a;
      value = some_name;
      more = some_name.text ∷ [];
      formed = refl;
      begins = refl;
      shallow = tt;
    }
      where
        by_first : (ts : List Token) → name_begins ts ≡ false → (b : Name) (more : List Token) → IsFormedName b → Agree 1 ts (b.text ∷ more) → ⊥
        by_first [] e b more f a = a
        by_first (u ∷ us) e b more f a = false≢true (sym e ∙ ap is_name a.0 ∙ f)

    name_read : (n : ℕ) (ts : List Token) → name_begins ts ≡ true → Outcome (titles nesting) Any n ts (Rattle.ep_reader.specs.Reading.name_at n ts)
    name_read n [] e = absurd (false≢true e)
    name_read n (u ∷ us) e = record {
      text = refl;
      at = refl;
      placed = (refl, tt);
      formed = e;
      shallow = (l, tt);
      only = λ b more f s a. record {
        bare = ap (λ z. record { token = 0; text = z }) a.0;
        outlines = ap (λ z. record { number = None; text = z; nesting = nesting } ∷ []) a.0;
      };
    }

abbrev pub names_one : Grammar Name
names_one = titles None

pub name_part : {F : Follow} → Part names_one F name
name_part = less_part (title_part None tt)

-- ---- where more than one token tells

-- The first j tokens begin some value with no deep formula there.
pub record Witness {A : Type 0} (g : Grammar A) (F : Follow) (ts : List Token) (j : ℕ) : Type 0 where
  pub value : A
  pub after : List Token
  pub formed : g.IsFormed value
  pub may_follow : F after
  pub agrees : Agree j ts (texts (g.marks value) ++ after)
  pub shallow : IsShallowTo j (g.marks value)

pub made_far : {A B : Type 0} {g : Grammar A} {h : Grammar B} {F : Follow} {n : ℕ} {ts : List Token} {f : A → B} {r : Read A} (j : ℕ)
    → Makes g h f → Reads g F n ts r → Witness g F ts j → ((a : A) → j ≤ length (g.marks a))
    → ((b : B) (more : List Token) → h.IsFormed b → F more → Agree (suc j) ts (texts (h.marks b) ++ more) → Made g f b)
    → Reads h F n ts (made f r)
made_far {A} {B} {g} {h} {F} {n} {ts} {f} {r} j makes o w long back = record {
  holds = made_outcome g h F n ts f makes r o.holds j
      (λ x e. omega (arith, (got g F n ts r o.holds x e).at, long x.0))
      (λ m e. far_refused g F n ts m j (failed g F n ts r o.holds m e) w.value w.after w.formed w.may_follow w.agrees)
      (λ m e d. far_deep g F n ts m j d w.value w.after w.formed w.may_follow w.agrees (λ i l. shallow_opens j i (g.marks w.value) l w.shallow)) back;
}
