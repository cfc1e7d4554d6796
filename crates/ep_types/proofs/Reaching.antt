-- A type is below another exactly where it reaches it through parents.
use Rattle.std.proofs.Common.{◌≡◌, ℕ, zero, suc, ◌≤◌, ◌<◌, Bool, true, false, ◌||◌, IsTrue, ◌↔◌, [], ◌∷◌, cond, length, Option, Some, None, refl, ap, sym, ◌∙◌, subst, arith}
use Rattle.std.specs.Option.{option_map_or}
use Rattle.std.specs.Cmp.Lexicographic.{bytes_decides}
use Rattle.ep_types.specs.Names.{Text, Typings, declared, is_text, climbs, is_below, Reaches, itself, through}
use Rattle.ep_types.specs.Links.{Rows, AreLinked, typings, name_at}
use Rattle.ep_types.proofs.TypeOrder.{text_itself, typings_long, climbs_here, enough}

here : (types : Typings) (kind above : Text) → IsTrue (is_text kind above) → Reaches types kind above
here types kind above h = let P : Text → Type 0 = λ a. Reaches types kind a in subst P ((bytes_decides kind above).0 h) itself

on : (types : Typings) (kind above : Text) (go : Text → Bool) → ((parent : Text) → IsTrue (go parent) → Reaches types parent above) → (o : Option Text) → declared kind types ≡ o → IsTrue (option_map_or go o false) → Reaches types kind above
on types kind above go f None e h = absurd (cc)
on types kind above go f (Some parent) e h = through e (f parent h)

either : (types : Typings) (kind above : Text) (b c : Bool) → (IsTrue b → Reaches types kind above) → (IsTrue c → Reaches types kind above) → IsTrue (b || c) → Reaches types kind above
either types kind above true c f g h = f h
either types kind above false c f g h = g h

climbs_reach : (n : ℕ) (types : Typings) (kind above : Text) → IsTrue (climbs n types kind above) → Reaches types kind above
climbs_reach zero types kind above h = here types kind above h
climbs_reach (suc n) types kind above h =
    either types kind above (is_text kind above) (option_map_or (λ parent. climbs n types parent above) (declared kind types) false)
    (λ k. here types kind above k)
    (λ k. on types kind above (λ parent. climbs n types parent above) (λ parent m. climbs_reach n types parent above m) (declared kind types) refl k)
    h

or_true : (b : Bool) → (b || true) ≡ true
or_true true = refl
or_true false = refl

-- a declared type has a number
numbered : (kind parent : Text) (rows : Rows) → declared kind (typings rows) ≡ Some parent → (k : ℕ) × (k < length rows) × (kind ≡ name_at rows k)
numbered kind parent [] e = absurd (cc)
numbered kind parent (r ∷ rs) e = by (is_text kind r.0) refl (λ d. numbered kind parent rs d)
  where
    by : (b : Bool) → is_text kind r.0 ≡ b → (declared kind (typings rs) ≡ Some parent → (k : ℕ) × (k < length rs) × (kind ≡ name_at rs k)) → (k : ℕ) × (k < length (r ∷ rs)) × (kind ≡ name_at (r ∷ rs) k)
    by true h rest = (0, omega arith, (bytes_decides kind r.0).0 h)
    by false h rest =
        let later = rest (sym (ap (λ b. cond b (Some r.1.parent) (declared kind (typings rs))) h) ∙ e) in
        (suc later.0, omega (arith, later.1), later.2)

module _ (rows : Rows) (linked : AreLinked rows) where
  reach_below : (kind above : Text) → Reaches (typings rows) kind above → is_below (typings rows) kind above ≡ true
  reach_below kind above itself = climbs_here (typings rows) above above (length (typings rows)) (text_itself above)
  reach_below kind above (through {parent = parent} e r) =
      let n = length (typings rows) in
      let more : climbs (suc n) (typings rows) kind above ≡ true =
      ap (λ o. is_text kind above || option_map_or (λ p. climbs n (typings rows) p above) o false) e ∙ ap (λ b. is_text kind above || b) (reach_below parent above r) ∙ or_true (is_text kind above)
      in
      let k = numbered kind parent rows e in
      let le : k.0 ≤ n = omega (arith, k.1, typings_long rows) in
      ap (λ x. climbs n (typings rows) x above) k.2 ∙ sym (enough rows linked above n k.0 le k.1) ∙ ap (λ x. climbs (suc n) (typings rows) x above) (sym k.2) ∙ more

  pub below_reaches : (kind above : Text) → IsTrue (is_below (typings rows) kind above) ↔ Reaches (typings rows) kind above
  below_reaches kind above = (climbs_reach (length (typings rows)) (typings rows) kind above, reach_below kind above)
