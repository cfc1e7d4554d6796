-- The cases of `add`.
use Rattle.std.proofs.Common.{◌≡◌, ℕ, zero, suc, ◌<◌, ◌≤◌, List, [], ◌∷◌, ◌++◌, set, length, slice_get, Vec, Some, refl, sym, ap, subst, ◌∙◌, arith}
use Rattle.std.specs.declared.alloc.Global.{Global}
use Rattle.std.specs.Map.{values_of}
use Rattle.indexmap.specs.IndexMap.{set_value_at}
use Rattle.std.proofs.lemmas.List.{length_push}
use Rattle.std.proofs.lemmas.Option.{same_Some}
use Rattle.ep_theory.specs.Kripke.{Kripke, IsState}
use Rattle.ep_bytes.specs.Bytes.{bytes_of}
use Rattle.ep_store.specs.declared.entry.Entry.{Entry}
use Rattle.ep_store.specs.Stored.{Stored, Lacks, AreDistinct, MayCome, IsNew, IsBetter, IsKnown, IsFull}
use Rattle.ep_store.specs.Inside.{IsStore, IsTree}
use Rattle.ep_store.proofs.KeyLemmas.{Pair}
use Rattle.ep_store.proofs.AddLemmas.{values-push, values-set, length-values, tree_push, distinct_push, keyed_push, tree_set, distinct_set, keyed_set}

abbrev pub stored : ℕ → List Pair → Stored
stored limit ps = record { limit = limit; entries = values_of ps }

set_itself : (ps : List Pair) (i : ℕ) (f : Entry) → slice_get (values_of ps) i ≡ Some f → set_value_at ps i f ≡ ps
set_itself [] i f at = refl
set_itself (p ∷ ps) zero f at = ap {A = Entry} {B = List Pair} (λ e. (p.0, e) ∷ ps) (sym (same_Some p.1 f at))
set_itself (p ∷ ps) (suc i) f at = ap (λ qs. p ∷ qs) (set_itself ps i f at)

length-set_value : (ps : List Pair) (i : ℕ) (e : Entry) → length (set_value_at ps i e) ≡ length ps
length-set_value [] i e = refl
length-set_value (p ∷ ps) zero e = refl
length-set_value (p ∷ ps) (suc i) e = ap suc (length-set_value ps i e)

-- a written entry has the state of the one before it
with_state : (f e w : Entry) → f.canon ≡ e.canon → w ≡ record f { weight = e.weight; from = e.from } → w ≡ e
with_state f e w same h = h ∙ (λ j. record { canon = same j; weight = e.weight; from = e.from })

module _ (limit : ℕ) (ps : List Pair) (kept : IsStore limit ps) where
  -- an entry that takes a lesser weight
  module _ (i : ℕ) (f e w : Entry) (at : slice_get (values_of ps) i ≡ Some f) (same : f.canon ≡ e.canon) (is : w ≡ record f { weight = e.weight; from = e.from }) (less : e.weight < f.weight) where
    keeps_better : MayCome (values_of ps) e.weight e.from → IsStore limit (set_value_at ps i e)
    keeps_better comes = record {
      room = omega (arith, length-set_value ps i e, kept.room);
      tree = subst IsTree (sym (values-set ps i e)) (tree_set (values_of ps) i f e at less kept.tree comes);
      distinct = subst AreDistinct (sym (values-set ps i e)) (distinct_set (values_of ps) i f e at less kept.distinct (sym same));
      keyed = keyed_set ps i f e kept.keyed at (sym same);
    }

    pub better_kept : MayCome (values_of ps) e.weight e.from → IsStore limit (set_value_at ps i w)
    better_kept comes = subst (λ (x : Entry). IsStore limit (set_value_at ps i x)) (sym (with_state f e w same is)) (keeps_better comes)

    pub is_better : IsBetter (stored limit ps) e i (stored limit (set_value_at ps i w))
    is_better = record {
      there = record { entry = f; at = at; holds = same };
      greater = record { entry = f; at = at; holds = less };
      after = ap (λ es. record { limit = limit; entries = es }) (values-set ps i w ∙ ap (set (values_of ps) i) (with_state f e w same is));
    }

  -- an entry that is left
  module _ (i : ℕ) (f w : Entry) (at : slice_get (values_of ps) i ≡ Some f) (is : w ≡ f) where
    unchanged : set_value_at ps i w ≡ ps
    unchanged = ap (set_value_at ps i) is ∙ set_itself ps i f at

    pub known_kept : IsStore limit (set_value_at ps i w)
    known_kept = subst (IsStore limit) (sym unchanged) kept

    pub is_known : (e : Entry) → f.canon ≡ e.canon → f.weight ≤ e.weight → IsKnown (stored limit ps) e i (stored limit (set_value_at ps i w))
    is_known e same few = record {
      there = record { entry = f; at = at; holds = same };
      not_greater = record { entry = f; at = at; holds = few };
      after = ap (stored limit) unchanged;
    }

  -- a state that goes last
  module _ (key : Vec ℕ Global) (e : Entry) (lacks : Lacks (values_of ps) e.canon) (room : length ps < limit) where
    pub new_kept : key.items ≡ bytes_of e.canon → IsState e.canon → MayCome (values_of ps) e.weight e.from → IsStore limit (ps ++ (key, e) ∷ [])
    new_kept own valid comes = record {
      room = omega (arith, length_push ps (key, e), room);
      tree = subst IsTree (sym (values-push ps (key, e))) (tree_push (values_of ps) e kept.tree comes);
      distinct = subst AreDistinct (sym (values-push ps (key, e))) (distinct_push (values_of ps) e kept.distinct lacks);
      keyed = keyed_push ps key e kept.keyed own valid;
    }

    pub is_new : IsNew (stored limit ps) e (length ps) (stored limit (ps ++ (key, e) ∷ []))
    is_new = record {
      absent = lacks;
      room = omega (arith, length-values ps, room);
      place = sym (length-values ps);
      after = ap (λ es. record { limit = limit; entries = es }) (values-push ps (key, e));
    }

  pub is_full : (C : Kripke) → Lacks (values_of ps) C → limit ≤ length ps → IsFull (stored limit ps) C (stored limit ps)
  is_full C lacks most = record { absent = lacks; full = omega (arith, length-values ps, kept.room, most); after = refl }
