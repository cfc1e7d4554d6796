-- The loops over links and designated events of a composition.
use Rattle.std.proofs.Common.{◌≡◌, ℕ, ◌+◌, ◌<◌, ◌≤◌, Bool, true, false, List, [], ◌∷◌, ◌++◌, length, get_or, take, refl, sym, ◌∙◌, ap, subst, arith, ◌↔◌, ◌⊎◌, inl, inr}
use Rattle.std.proofs.lemmas.List.{take_more}
use Rattle.ep_logic.specs.declared.ids.EventId.{EventId}
use Rattle.ep_logic.specs.Numbers.{pairs_within}
use Rattle.ep_theory.specs.Rising.{IsIn}
use Rattle.ep_theory.specs.Events.{EventModel, event_links}
use Rattle.ep_theory.proofs.lists.Filters.{IsIn-at}
use Rattle.ep_theory.proofs.lists.Counting.{last_or_before}
use Rattle.ep_theory.proofs.lists.NumbersLemmas.{from_pairs, in_pairs}
use Rattle.ep_event.specs.declared.parts.EventLink.{EventLink}
use Rattle.ep_event.specs.Built.{link, event}
use Rattle.ep_dynamic.specs.Composition.{event_pairs, pair_at, IsLinkInTurn, IsLinkBetween, IsDesignatedBefore}
use Rattle.ep_dynamic.proofs.ComposedLemmas.{in_more}
use Rattle.ep_dynamic.proofs.ReducedLemmas.{taken}

same_link : (x : EventLink) (a e f : ℕ) → x.agent.n ≡ a → x.from.n ≡ e → x.to.n ≡ f → x ≡ link a e f
same_link x a e f p q r = λ i. record { agent = record { n = p i }; from = record { n = q i }; to = record { n = r i } }

same_event : (x : EventId) (k : ℕ) → x.n ≡ k → x ≡ event k
same_event x k p = λ i. record { n = p i }

before : (j n : ℕ) → j < n + 1 → (j ≡ n) ⊎ (j < n)
before j n l = last_or_before j n (omega (arith, l))

module _ (A B : EventModel) (ends : ℕ × ℕ) where
  abbrev First : ℕ → Type 0
  First n = IsIn ((pair_at A B ends.0).0, (pair_at A B ends.1).0) (event_links A n)

  abbrev Second : ℕ → Type 0
  Second n = IsIn ((pair_at A B ends.0).1, (pair_at A B ends.1).1) (event_links B n)

  abbrev pub Adds : ℕ → List EventLink → List EventLink → Type 0
  Adds n old links = (x : EventLink) → IsIn x links ↔ (IsIn x old ⊎ IsLinkBetween A B n ends x)

  pub put_none : (old : List EventLink) → Adds 0 old old
  put_none old x = (λ i. inl i, λ i. elim i [ inl k ↦ k | inr b ↦ absurd (omega (arith, b.agent)) ])

  later : (n : ℕ) (x : EventLink) → IsLinkBetween A B n ends x → IsLinkBetween A B (n + 1) ends x
  later n x b = record { agent = omega (arith, b.agent); from = b.from; to = b.to; first = b.first; second = b.second }

  earlier : (n : ℕ) (x : EventLink) → x.agent.n < n → IsLinkBetween A B (n + 1) ends x → IsLinkBetween A B n ends x
  earlier n x l b = record { agent = l; from = b.from; to = b.to; first = b.first; second = b.second }

  pub put_more : (n : ℕ) (old links new : List EventLink) → Adds n old links → First n → Second n → new ≡ links ++ link n ends.0 ends.1 ∷ [] → Adds (n + 1) old new
  put_more n old links new h p q e x =
      let more = in_more x (link n ends.0 ends.1) links in (
        λ i. elim (more.0 (subst (IsIn x) e i)) [
          | inl j ↦ elim ((h x).0 j) [ inl k ↦ inl k | inr b ↦ inr (later n x b) ]
          | inr r ↦ inr (here r)
        ],
        λ i. subst (IsIn x) (sym e) (more.1 (elim i [ inl k ↦ inl ((h x).1 (inl k)) | inr b ↦ back b (before x.agent.n n b.agent) ])),
      )
    where
      here : x ≡ link n ends.0 ends.1 → IsLinkBetween A B (n + 1) ends x
      here r =
          let a : x.agent.n ≡ n = ap (λ (y : EventLink). y.agent.n) r in
          record {
            agent = omega (arith, a);
            from = ap (λ (y : EventLink). y.from.n) r;
            to = ap (λ (y : EventLink). y.to.n) r;
            first = subst First (sym a) p;
            second = subst Second (sym a) q;
          }

      back : IsLinkBetween A B (n + 1) ends x → (x.agent.n ≡ n) ⊎ (x.agent.n < n) → IsIn x links ⊎ (x ≡ link n ends.0 ends.1)
      back b (inl r) = inr (same_link x n ends.0 ends.1 r b.from b.to)
      back b (inr l) = inl ((h x).1 (inr (earlier n x l b)))

  pub put_same : (n : ℕ) (old links : List EventLink) → Adds n old links → (First n × Second n → ⊥) → Adds (n + 1) old links
  put_same n old links h never x = (
    λ i. elim ((h x).0 i) [ inl k ↦ inl k | inr b ↦ inr (later n x b) ],
    λ i. elim i [ inl k ↦ (h x).1 (inl k) | inr b ↦ back b (before x.agent.n n b.agent) ],
  )
    where
      back : IsLinkBetween A B (n + 1) ends x → (x.agent.n ≡ n) ⊎ (x.agent.n < n) → IsIn x links
      back b (inl r) = absurd (never (subst First r b.first, subst Second r b.second))
      back b (inr l) = (h x).1 (inr (earlier n x l b))

module _ (A B : EventModel) where
  abbrev pub Among : List (ℕ × ℕ) → List EventLink → Type 0
  Among ends links = (x : EventLink) → IsIn x links ↔ ((at : ℕ × ℕ) × IsIn at ends × IsLinkBetween A B (length A.links) at x)

  pub among_none : (links : List EventLink) → links ≡ [] → Among [] links
  among_none links e x = (λ i. absurd (subst (IsIn x) e i), λ r. absurd r.1)

  pub among_more : (ends : List (ℕ × ℕ)) (i : ℕ) (links new : List EventLink) → i < length ends → Among (take i ends) links → Adds A B (get_or ends i (0, 0)) (length A.links) links new → Among (take (i + 1) ends) new
  among_more ends i links new l h e x =
      let at = get_or ends i (0, 0) in
      let tm = take_more ends i (0, 0) l in (
        λ k. elim ((e x).0 k) [
          | inl j ↦ let r = (h x).0 j in (r.0, subst (IsIn r.0) (sym tm) ((in_more r.0 (get_or ends i (0, 0)) (take i ends)).1 (inl r.1)), r.2)
          | inr b ↦ (get_or ends i (0, 0), subst (IsIn (get_or ends i (0, 0))) (sym tm) ((in_more (get_or ends i (0, 0)) (get_or ends i (0, 0)) (take i ends)).1 (inr refl)), b)
        ],
        λ r. elim ((in_more r.0 (get_or ends i (0, 0)) (take i ends)).0 (subst (IsIn r.0) tm r.1)) [
          | inl j ↦ (e x).1 (inl ((h x).1 (r.0, j, r.2)))
          | inr q ↦ (e x).1 (inr (subst (λ at. IsLinkBetween A B (length A.links) at x) q r.2))
        ],
      )

  pub among_all : (ends : List (ℕ × ℕ)) (i count : ℕ) (links : List EventLink) → length ends ≤ i → ends ≡ pairs_within (λ e f. true) count count → count ≡ length (event_pairs A B) → Among (take i ends) links →
      (x : EventLink) → IsIn x links ↔ IsLinkInTurn A B x
  among_all ends i count links l e n h x = (
    λ k.
        let r = (h x).0 k in
        let at = from_pairs (λ e f. true) count count r.0 (subst (IsIn r.0) (taken ends i l ∙ e) r.1) in
        let b = r.2 in
        let same : (x.from.n, x.to.n) ≡ r.0 = λ i. (b.from i, b.to i) in
        record {
          agent = b.agent;
          from = omega (arith, b.from, at.0, n);
          to = omega (arith, b.to, at.1, n);
          first = subst (λ (e : ℕ × ℕ). IsIn ((pair_at A B e.0).0, (pair_at A B e.1).0) (event_links A x.agent.n)) (sym same) b.first;
          second = subst (λ (e : ℕ × ℕ). IsIn ((pair_at A B e.0).1, (pair_at A B e.1).1) (event_links B x.agent.n)) (sym same) b.second;
        },
    λ r. (h x).1 (
      (x.from.n, x.to.n),
      subst (IsIn (x.from.n, x.to.n)) (sym (taken ends i l ∙ e)) (in_pairs (λ e f. true) count count x.from.n x.to.n (omega (arith, r.from, n)) (omega (arith, r.to, n)) refl),
      record { agent = r.agent; from = refl; to = refl; first = r.first; second = r.second },
    ),
  )

  abbrev pub Marks : ℕ → List EventId → Type 0
  Marks n ids = (x : EventId) → IsIn x ids ↔ IsDesignatedBefore A B n x.n

  pub marks_none : (ids : List EventId) → ids ≡ [] → Marks 0 ids
  marks_none ids e x = (λ i. absurd (subst (IsIn x) e i), λ b. absurd (omega (arith, b.number)))

  pub marks_more : (n : ℕ) (ids new : List EventId) → Marks n ids → IsIn (pair_at A B n).0 A.designated → IsIn (pair_at A B n).1 B.designated → new ≡ ids ++ event n ∷ [] → Marks (n + 1) new
  marks_more n ids new h p q e x =
      let more = in_more x (event n) ids in (
        λ i. elim (more.0 (subst (IsIn x) e i)) [
          | inl j ↦ let b = (h x).0 j in record { number = omega (arith, b.number); first = b.first; second = b.second }
          | inr r ↦ here (ap (λ (y : EventId). y.n) r)
        ],
        λ b. subst (IsIn x) (sym e) (more.1 (back b (before x.n n b.number))),
      )
    where
      here : x.n ≡ n → IsDesignatedBefore A B (n + 1) x.n
      here a = record {
        number = omega (arith, a);
        first = subst (λ k. IsIn (pair_at A B k).0 A.designated) (sym a) p;
        second = subst (λ k. IsIn (pair_at A B k).1 B.designated) (sym a) q;
      }

      back : IsDesignatedBefore A B (n + 1) x.n → (x.n ≡ n) ⊎ (x.n < n) → IsIn x ids ⊎ (x ≡ event n)
      back b (inl r) = inr (same_event x n r)
      back b (inr l) = inl ((h x).1 (record { number = l; first = b.first; second = b.second }))

  pub marks_same : (n : ℕ) (ids : List EventId) → Marks n ids → (IsIn (pair_at A B n).0 A.designated × IsIn (pair_at A B n).1 B.designated → ⊥) → Marks (n + 1) ids
  marks_same n ids h never x = (
    λ i. let b = (h x).0 i in record { number = omega (arith, b.number); first = b.first; second = b.second },
    λ b. back b (before x.n n b.number),
  )
    where
      back : IsDesignatedBefore A B (n + 1) x.n → (x.n ≡ n) ⊎ (x.n < n) → IsIn x ids
      back b (inl r) = absurd (never (subst (λ k. IsIn (pair_at A B k).0 A.designated) r b.first, subst (λ k. IsIn (pair_at A B k).1 B.designated) r b.second))
      back b (inr l) = (h x).1 (record { number = l; first = b.first; second = b.second })

-- what stands at a place of the pairs
pub at_place : (P : ℕ × ℕ → ℕ × ℕ → Type 0) (A B : EventModel) (ps : List (ℕ × ℕ)) (e f : ℕ) → ps ≡ event_pairs A B → P (get_or ps e (0, 0)) (get_or ps f (0, 0)) → P (pair_at A B e) (pair_at A B f)
at_place P A B ps e f q h = subst (λ ps. P (get_or ps e (0, 0)) (get_or ps f (0, 0))) q h

pub from_place : (P : ℕ × ℕ → ℕ × ℕ → Type 0) (A B : EventModel) (ps : List (ℕ × ℕ)) (e f : ℕ) → ps ≡ event_pairs A B → P (pair_at A B e) (pair_at A B f) → P (get_or ps e (0, 0)) (get_or ps f (0, 0))
from_place P A B ps e f q h = subst (λ ps. P (get_or ps e (0, 0)) (get_or ps f (0, 0))) (sym q) h

pub end_within : (ends : List (ℕ × ℕ)) (i count : ℕ) → i < length ends → ends ≡ pairs_within (λ e f. true) count count → ((get_or ends i (0, 0)).0 < count) × ((get_or ends i (0, 0)).1 < count)
end_within ends i count l e =
    let c = from_pairs (λ e f. true) count count (get_or ends i (0, 0)) (subst (IsIn (get_or ends i (0, 0))) e (IsIn-at ends i (0, 0) l)) in
    (c.0, c.1)

pub clash : (b : Bool) → b ≡ false → b ≡ true → ⊥
clash b p q = absurd (cc)
