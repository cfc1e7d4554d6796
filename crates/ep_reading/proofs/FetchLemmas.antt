-- The files that steps fetch one after the other.
use Rattle.std.specs.Str.{bytes_eq}
use Rattle.std.proofs.Common.{◌≡◌, ◌≢◌, ◌⊎◌, ℕ, Bool, true, false, inl, inr, List, [], ◌∷◌, ◌++◌, Result, Ok, Err, OnOk, if◌then◌else◌, refl, sym, ap, subst, ◌∙◌, append_assoc, append-nil}
use Rattle.ep_io.specs.Library.{LibraryState, HasFetched}
use Rattle.ep_io.specs.declared.library.FetchError.{FetchError}
use Rattle.ep_io.specs.declared.library.FetchError.TheVariants as fetch
use Rattle.ep_reading.specs.Fetches.{Fetches, FetchesAll, plan_files}
use Rattle.ep_reading.specs.PlanFile.{no_plan}

-- ---- one fetch

pub fetches_one : (name : List ℕ) (old new : LibraryState) → HasFetched old new name → Fetches (name ∷ []) old new
fetches_one name old new h = record { made = name ∷ []; left = []; first = refl; fetched = h.0 }

-- nothing was fetched
pub fetches_none : (names : List (List ℕ)) (old new : LibraryState) → new.fetched ≡ old.fetched → Fetches names old new
fetches_none names old new e = record { made = []; left = names; first = refl; fetched = e ∙ sym (append-nil old.fetched) }

fetches_maybe : (name : List ℕ) (old new : LibraryState) → HasFetched old new name ⊎ (new ≡ old) → Fetches (name ∷ []) old new
fetches_maybe name old new (inl h) = fetches_one name old new h
fetches_maybe name old new (inr e) = fetches_none (name ∷ []) old new (ap (λ (l : LibraryState). l.fetched) e)

pub fetches_any : {A : Type 0} (r : Result A FetchError) (name : List ℕ) (old new : LibraryState) → (r ≢ Err fetch.OutOfMemory → HasFetched old new name)
    → (r ≡ Err fetch.OutOfMemory → HasFetched old new name ⊎ (new ≡ old)) → Fetches (name ∷ []) old new
fetches_any (Ok x) name old new f g = fetches_one name old new (f (λ e. cc))
fetches_any (Err fetch.Missing) name old new f g = fetches_one name old new (f (λ e. cc))
fetches_any (Err fetch.TooLong) name old new f g = fetches_one name old new (f (λ e. cc))
fetches_any (Err fetch.Failed) name old new f g = fetches_one name old new (f (λ e. cc))
fetches_any (Err fetch.OutOfMemory) name old new f g = fetches_maybe name old new (g refl)

pub on_ok : {A E : Type 0} (P : Type 0) (r : Result A E) → P → OnOk r P
on_ok P (Ok x) h = h
on_ok P (Err e) h = tt

-- ---- one after the other

pub fetches_all : (names : List (List ℕ)) (old new : LibraryState) → FetchesAll names old new → Fetches names old new
fetches_all names old new h = record { made = names; left = []; first = sym (append-nil names); fetched = h }

pub fetches_first : (names more : List (List ℕ)) (old new : LibraryState) → Fetches names old new → Fetches (names ++ more) old new
fetches_first names more old new h = record {
  made = h.made;
  left = h.left ++ more;
  first = ap (λ (l : List (List ℕ)). l ++ more) h.first ∙ append_assoc h.made h.left more;
  fetched = h.fetched;
}

pub fetches_then : (names more : List (List ℕ)) (old mid new : LibraryState) → FetchesAll names old mid → Fetches more mid new → Fetches (names ++ more) old new
fetches_then names more old mid new h k = record {
  made = names ++ k.made;
  left = k.left;
  first = ap (λ (l : List (List ℕ)). names ++ l) k.first ∙ sym (append_assoc names k.made k.left);
  fetched = k.fetched ∙ ap (λ (l : List (List ℕ)). l ++ k.made) h ∙ append_assoc old.fetched names k.made;
}

-- ---- the file of the word of a plan

pub dash_files : (word : List ℕ) (r : Bool) → r ≡ bytes_eq word no_plan → r ≡ true → plan_files word ≡ []
dash_files word r is e = ap (λ (b : Bool). if b then [] else word ∷ []) (sym is ∙ e)

word_files : (word : List ℕ) (r : Bool) → r ≡ bytes_eq word no_plan → r ≡ false → plan_files word ≡ word ∷ []
word_files word r is e = ap (λ (b : Bool). if b then [] else word ∷ []) (sym is ∙ e)

pub no_plan_fetched : (word : List ℕ) (library : LibraryState) → plan_files word ≡ [] → FetchesAll (plan_files word) library library
no_plan_fetched word library e = subst (λ (names : List (List ℕ)). FetchesAll names library library) (sym e) (sym (append-nil library.fetched))

pub fetches_word : (word : List ℕ) (r : Bool) (old new : LibraryState) → r ≡ bytes_eq word no_plan → r ≡ false → Fetches (word ∷ []) old new → Fetches (plan_files word) old new
fetches_word word r old new is e h = subst (λ (names : List (List ℕ)). Fetches names old new) (sym (word_files word r is e)) h

pub fetches_whole_word : (word : List ℕ) (r : Bool) (old new : LibraryState) → r ≡ bytes_eq word no_plan → r ≡ false → FetchesAll (word ∷ []) old new → FetchesAll (plan_files word) old new
fetches_whole_word word r old new is e h = subst (λ (names : List (List ℕ)). FetchesAll names old new) (sym (word_files word r is e)) h
