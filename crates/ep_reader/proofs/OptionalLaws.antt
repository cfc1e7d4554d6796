-- The laws of the readers of a part that may be left out.
use Rattle.std.proofs.Common.{◌≡◌, ℕ, suc, Bool, true, false, List, [], ◌∷◌, ◌++◌, length, Option, Some, None, Ok, refl, sym, ap, ◌∙◌, subst, arith}
use Rattle.std.proofs.lemmas.Bool.{false≢true}
use Rattle.ep_tree.specs.declared.terminal.Terminal.{Terminal}
use Rattle.ep_tree.specs.Grammar.{Grammar}
use Rattle.ep_tree.specs.Marks.{fixed, texts}
use Rattle.ep_tree.specs.Terminals.{is}
use Rattle.ep_reader.specs.Reading.{Token, Reader, heads, begins, optional, flag}
use Rattle.ep_reader.proofs.Laws.{Follow, IsSame, Made}
use Rattle.ep_reader.proofs.ListLaws.{Agree-heads, behind_of, keyed_part}
use Rattle.ep_reader.proofs.MarkLists.{Agree}
use Rattle.ep_reader.proofs.Readers.{Reads, Part, Any, Lacks, made_by, either, less, is-text_of}

-- h spells nothing as nothing, and something behind the terminal
pub record IsOptional {A : Type 0} (t : Terminal) (g : Grammar A) (h : Grammar (Option A)) : Type 0 where
  pub nothing : h.marks None ≡ []
  pub something : (a : A) → h.marks (Some a) ≡ fixed t ∷ g.marks a
  pub none_formed : h.IsFormed None
  pub some_formed : (a : A) → g.IsFormed a → h.IsFormed (Some a)
  pub formed_some : (a : A) → h.IsFormed (Some a) → g.IsFormed a
  pub none_bare : h.bare None ≡ None
  pub some_bare : (a : A) → h.bare (Some a) ≡ Some (g.bare a)

module _ {A : Type 0} (t : Terminal) (g : Grammar A) (h : Grammar (Option A)) (o : IsOptional t g h) (F : Follow) (item : Reader A) (p : Part g Any item)
    (stops : (ts : List Token) → F ts → Lacks (is t) ts) where
  optional_none : (ts : List Token) → begins t ts ≡ false → (b : Option A) (more : List Token) → Agree 1 ts (texts (h.marks b) ++ more) → IsSame h None b
  optional_none ts e None more a = record { bare = refl; outlines = refl }
  optional_none ts e (Some x) more a =
      absurd (false≢true (sym e ∙ Agree-heads (is t) ts _ (subst (λ z. Agree 1 ts (texts z ++ more)) (o.something x) a) ∙ is-text_of t))

  optional_back : (ts : List Token) → begins t ts ≡ true → (b : Option A) (more : List Token) → h.IsFormed b → F more → Agree 1 ts (texts (h.marks b) ++ more) → Made (behind_of t g) Some b
  optional_back ts e None more f s a =
      absurd (false≢true (sym (stops more s) ∙ sym (Agree-heads (is t) ts more (subst (λ z. Agree 1 ts (texts z ++ more)) o.nothing a)) ∙ e))
  optional_back ts e (Some x) more f s a = record { from = x; formed = o.formed_some x f; is = refl }

  none_reads : (n : ℕ) (ts : List Token) → begins t ts ≡ false → Reads h F n ts (Ok (None, n, ts))
  none_reads n ts e = record {
    holds = record {
      text = rw o.nothing refl;
      at = rw o.nothing (omega arith);
      placed = rw o.nothing tt;
      formed = o.none_formed;
      shallow = rw o.nothing tt;
      only = λ b more f s a. optional_none ts e b more (subst (λ k. Agree (suc k) ts (texts (h.marks b) ++ more)) (ap length o.nothing) a);
    };
  }

  pub optional_part : Part h F (optional t item)
  optional_part = record {
    reads = λ n ts. either (begins t ts)
        (λ e. made_by (record { marks = λ a _. o.something a; formed = o.some_formed; bare = o.some_bare }) (less ((keyed_part t p).reads n ts)) (optional_back ts e))
        (none_reads n ts);
    value = None;
    formed = o.none_formed;
  }

-- h spells false as nothing, and true as g spells any of its values, the terminal first
pub record IsFlag {A : Type 0} (t : Terminal) (g : Grammar A) (h : Grammar Bool) : Type 0 where
  pub no : h.marks false ≡ []
  pub yes : (a : A) → h.marks true ≡ g.marks a
  pub starts : (more : List Token) → heads (is t) (texts (h.marks true) ++ more) ≡ true
  pub formed : (b : Bool) → h.IsFormed b
  pub bare : (b : Bool) → h.bare b ≡ b

module _ {A : Type 0} (t : Terminal) (g : Grammar A) (h : Grammar Bool) (o : IsFlag t g h) (F : Follow) (item : Reader A) (p : Part g Any item)
    (stops : (ts : List Token) → F ts → Lacks (is t) ts) where
  flag_none : (ts : List Token) → begins t ts ≡ false → (b : Bool) (more : List Token) → Agree 1 ts (texts (h.marks b) ++ more) → IsSame h false b
  flag_none ts e false more a = record { bare = refl; outlines = refl }
  flag_none ts e true more a = absurd (false≢true (sym e ∙ Agree-heads (is t) ts _ a ∙ o.starts more))

  flag_back : (ts : List Token) → begins t ts ≡ true → (b : Bool) (more : List Token) → F more → Agree 1 ts (texts (h.marks b) ++ more) → Made g (λ _. true) b
  flag_back ts e true more s a = record { from = p.value; formed = p.formed; is = refl }
  flag_back ts e false more s a =
      absurd (false≢true (sym (stops more s) ∙ sym (Agree-heads (is t) ts more (subst (λ z. Agree 1 ts (texts z ++ more)) o.no a)) ∙ e))

  unflagged_reads : (n : ℕ) (ts : List Token) → begins t ts ≡ false → Reads h F n ts (Ok (false, n, ts))
  unflagged_reads n ts e = record {
    holds = record {
      text = rw o.no refl;
      at = rw o.no (omega arith);
      placed = rw o.no tt;
      formed = o.formed false;
      shallow = rw o.no tt;
      only = λ b more f s a. flag_none ts e b more (subst (λ k. Agree (suc k) ts (texts (h.marks b) ++ more)) (ap length o.no) a);
    };
  }

  pub flag_part : Part h F (flag t item)
  flag_part = record {
    reads = λ n ts. either (begins t ts)
        (λ e. made_by (record { marks = λ a _. o.yes a; formed = λ _ _. o.formed true; bare = λ _. o.bare true }) (less (p.reads n ts)) (λ b more f s a. flag_back ts e b more s a))
        (unflagged_reads n ts);
    value = false;
    formed = o.formed false;
  }
