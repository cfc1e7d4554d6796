-- A loop that reads a list.
use Rattle.std.proofs.Common.{◌≡◌, ℕ, zero, suc, Bool, true, false, List, [], ◌∷◌, ◌++◌, length, Ok, Err, refl, sym, ap, ◌∙◌, append_assoc, append-nil}
use Rattle.ep_reader.specs.declared.error.SyntaxError.{SyntaxError}
use Rattle.ep_reader.specs.declared.error.SyntaxError.TheVariants as error
use Rattle.ep_reader.specs.Gives.{Stops}
use Rattle.ep_reader.specs.Reading.{Token, Fault, Syntax, TooDeep, Read, Reader, seq, paired, made, heads, each_by, each, front}
use Rattle.ep_reader.proofs.Readers.{made-id}

-- the rest of the list, behind the items that were found, is what the reader of lists gives
pub record Going {A : Type 0} (test : Token → Bool) (item : Reader A) (fuel : ℕ) (found : List A) (n : ℕ) (ts : List Token) (goal : Read (List A)) : Type 0 where
  pub so_far : made (λ xs. found ++ xs) (each_by fuel test item n ts) ≡ goal

module _ {A : Type 0} (test : Token → Bool) (item : Reader A) where
  pub going_begin : (fuel n : ℕ) (ts : List Token) → fuel ≡ length ts → Going test item fuel [] n ts (each test item n ts)
  going_begin fuel n ts e = record { so_far = made-id (each_by fuel test item n ts) ∙ ap (λ k. each_by k test item n ts) e }

  stop_by : (fuel : ℕ) (found : List A) (n : ℕ) (ts : List Token) → heads test ts ≡ false → made (λ xs. found ++ xs) (each_by fuel test item n ts) ≡ Ok (found, n, ts)
  unfolding each_by
  stop_by zero found n ts e = ap (λ z. Ok (z, n, ts)) (append-nil found)
  stop_by (suc fuel) found n ts e = rw e (ap (λ z. Ok (z, n, ts)) (append-nil found))

  pub going_stop : {fuel : ℕ} {found : List A} {n : ℕ} {ts : List Token} {goal : Read (List A)} → Going test item fuel found n ts goal → heads test ts ≡ false → goal ≡ Ok (found, n, ts)
  going_stop {fuel} {found} {n} {ts} g e = sym g.so_far ∙ stop_by fuel found n ts e

  pub going_end : {fuel : ℕ} {found : List A} {n : ℕ} {ts : List Token} {goal : Read (List A)} → Going test item fuel found n ts goal → fuel ≡ 0 → goal ≡ Ok (found, n, ts)
  unfolding each_by
  going_end {fuel} {found} {n} {ts} g e =
      sym g.so_far ∙ ap (λ k. made (λ xs. found ++ xs) (each_by k test item n ts)) e ∙ ap (λ z. Ok (z, n, ts)) (append-nil found)

  unroll : (fuel n : ℕ) (ts : List Token) → heads test ts ≡ true → each_by (suc fuel) test item n ts ≡ made front (seq (item n ts) (each_by fuel test item))
  unfolding each_by
  unroll fuel n ts e = rw e refl

  joins : (a : A) (found : List A) (r : Read (List A)) → made (λ xs. found ++ xs) (made front (paired a r)) ≡ made (λ xs. (found ++ a ∷ []) ++ xs) r
  joins a found (Ok y) = ap (λ z. Ok (z, y.1, y.2)) (sym (append_assoc found (a ∷ []) y.0))
  joins a found (Err e) = refl

  pub going_on : {fuel : ℕ} (rest : ℕ) → fuel ≡ suc rest → {found : List A} {n : ℕ} {ts : List Token} {goal : Read (List A)} → Going test item fuel found n ts goal
      → heads test ts ≡ true → (x : A × ℕ × List Token) → item n ts ≡ Ok x → Going test item rest (found ++ x.0 ∷ []) x.1 x.2 goal
  going_on {fuel} rest f {found} {n} {ts} g b x i = record {
    so_far = sym (joins x.0 found (each_by rest test item x.1 x.2)) ∙ ap (λ z. made (λ xs. found ++ xs) (made front (seq z (each_by rest test item)))) (sym i)
        ∙ ap (made (λ xs. found ++ xs)) (sym (unroll rest n ts b)) ∙ ap (λ k. made (λ xs. found ++ xs) (each_by k test item n ts)) (sym f) ∙ g.so_far;
  }

  going_fault : {fuel : ℕ} (rest : ℕ) → fuel ≡ suc rest → {found : List A} {n : ℕ} {ts : List Token} {goal : Read (List A)} → Going test item fuel found n ts goal
      → heads test ts ≡ true → (f : Fault) → item n ts ≡ Err f → goal ≡ Err f
  going_fault {fuel} rest e {found} {n} {ts} g b f i =
      sym g.so_far ∙ ap (λ k. made (λ xs. found ++ xs) (each_by k test item n ts)) e ∙ ap (made (λ xs. found ++ xs)) (unroll rest n ts b)
      ∙ ap (λ z. made (λ xs. found ++ xs) (made front (seq z (each_by rest test item)))) i

  pub going_stops : {fuel : ℕ} (rest : ℕ) → fuel ≡ suc rest → {found : List A} {n : ℕ} {ts : List Token} {goal : Read (List A)} → Going test item fuel found n ts goal
      → heads test ts ≡ true → (e : SyntaxError) → Stops e (item n ts) → Stops e goal
  going_stops rest f g b error.OutOfMemory s = tt
  going_stops rest f g b (error.Syntax token) s = going_fault rest f g b (Syntax token) s
  going_stops rest f g b (error.TooDeep token) s = going_fault rest f g b (TooDeep token) s
