-- Where the values of a state stand in its bytes, and that its bytes decide it.
use Rattle.std.proofs.Common.{◌≡◌, ℕ, ◌+◌, ◌*◌, ◌/◌, ◌%◌, ◌<◌, false, ◌==◌, List, [], ◌++◌, length, get_or, refl, sym, ap, ◌∙◌, arith, ◌↔◌}
use Rattle.std.specs.Int.{bit_at}
use Rattle.std.specs.Ordering.{nat_cmp}
use Rattle.std.specs.List.{AllByRecursion, flat_map}
use Rattle.std.proofs.lemmas.List.{get_or_append_left, get_or-append-add, length-append}
use Rattle.std.proofs.lemmas.Nat.{mul-add-lt}
use Rattle.ep_logic.specs.Numbers.{has_number}
use Rattle.ep_theory.specs.Kripke.{Kripke, IsState, pair_cmp, links_of, truth_of, successors}
use Rattle.ep_theory.proofs.CallerLemmas.{All-at, at_All, All-from_each, same_rising, from_successors, IsIn-successors, from_table, to_has_number, from_has_number, numbers, pairs, same_places, links_rising, links_within}
use Rattle.ep_logic.proofs.CallerLemmas.{length-table, get_or-table}
use Rattle.ep_bytes.specs.Bytes.{row_size, row_bytes, header, bytes_of}
use Rattle.ep_kripke.specs.Interning.{row_of, successor_rows}
use Rattle.ep_bytes.specs.Reading.{bit_from}
use Rattle.ep_bytes.proofs.RowBytesLemmas.{length-row_bytes, bit_of_row, length-pieces, at_piece}

-- where the rows of successors and the row of the designated worlds begin
abbrev pub links_begin : Kripke → ℕ
links_begin S = 5 + S.worlds * row_size S.atoms

abbrev pub agent_size : Kripke → ℕ
agent_size S = S.worlds * row_size S.worlds

abbrev pub designated_begin : Kripke → ℕ
designated_begin S = links_begin S + S.agents * agent_size S

abbrev agent_bytes : Kripke → List (ℕ × ℕ) → List ℕ
agent_bytes S pairs = flat_map row_bytes (successor_rows S.worlds pairs)

abbrev truth_bytes : Kripke → List ℕ
truth_bytes S = flat_map row_bytes S.truth

abbrev link_bytes : Kripke → List ℕ
link_bytes S = flat_map (agent_bytes S) S.links

abbrev designated_bytes : Kripke → List ℕ
designated_bytes S = row_bytes (row_of S.worlds S.designated)

-- the numbers
pub first_of_bytes : (S : Kripke) → (get_or (bytes_of S) 0 0 ≡ S.worlds / 256) × (get_or (bytes_of S) 1 0 ≡ S.worlds % 256)
unfolding bytes_of
first_of_bytes S = (refl, refl)

pub agents_of_bytes : (S : Kripke) → get_or (bytes_of S) 2 0 ≡ S.agents
unfolding bytes_of
agents_of_bytes S = refl

pub atoms_of_bytes : (S : Kripke) → (get_or (bytes_of S) 3 0 ≡ S.atoms / 256) × (get_or (bytes_of S) 4 0 ≡ S.atoms % 256)
unfolding bytes_of
atoms_of_bytes S = (refl, refl)

module _ (S : Kripke) (s : IsState S) where
  each_truth : AllByRecursion (λ row. length (row_bytes row) ≡ row_size S.atoms) S.truth
  each_truth = All-from_each (λ row. length (row_bytes row) ≡ row_size S.atoms) S.truth
      (λ row i. length-row_bytes row ∙ ap row_size (at_All (λ t. length t ≡ S.atoms) row S.truth s.each_truth i))

  each_row : (pairs : List (ℕ × ℕ)) → AllByRecursion (λ row. length (row_bytes row) ≡ row_size S.worlds) (successor_rows S.worlds pairs)
  each_row pairs = All-from_each (λ row. length (row_bytes row) ≡ row_size S.worlds) (successor_rows S.worlds pairs)
      (λ row i.
      let r = from_table (λ w. row_of S.worlds (successors pairs w)) S.worlds row i in
      length-row_bytes row ∙ ap row_size (ap length r.2 ∙ length-table (has_number (successors pairs r.0)) S.worlds))

  length-agent : (pairs : List (ℕ × ℕ)) → length (agent_bytes S pairs) ≡ agent_size S
  length-agent pairs =
      length-pieces row_bytes (row_size S.worlds) (successor_rows S.worlds pairs) (each_row pairs)
      ∙ ap (λ n. n * row_size S.worlds) (length-table (λ w. row_of S.worlds (successors pairs w)) S.worlds)

  each_agent : AllByRecursion (λ pairs. length (agent_bytes S pairs) ≡ agent_size S) S.links
  each_agent = All-from_each (λ pairs. length (agent_bytes S pairs) ≡ agent_size S) S.links (λ pairs i. length-agent pairs)

  length-truths : length (truth_bytes S) ≡ S.worlds * row_size S.atoms
  length-truths = length-pieces row_bytes (row_size S.atoms) S.truth each_truth ∙ ap (λ n. n * row_size S.atoms) s.truths

  length-links : length (link_bytes S) ≡ S.agents * agent_size S
  length-links = length-pieces (agent_bytes S) (agent_size S) S.links each_agent ∙ ap (λ n. n * agent_size S) s.relations

  pub length-bytes : length (bytes_of S) ≡ designated_begin S + row_size S.worlds
  unfolding bytes_of
  length-bytes =
      length-append (header S ++ truth_bytes S ++ link_bytes S) (designated_bytes S)
      ∙ omega (
        arith,
        length-append (header S ++ truth_bytes S) (link_bytes S),
        length-append (header S) (truth_bytes S),
        length-truths,
        length-links,
        length-row_bytes (row_of S.worlds S.designated),
        ap row_size (length-table (has_number S.designated) S.worlds),
      )

  -- a byte of each part
  in_truths : (k : ℕ) → k < S.worlds * row_size S.atoms → get_or (bytes_of S) (5 + k) 0 ≡ get_or (truth_bytes S) k 0
  unfolding bytes_of
  in_truths k l =
      get_or_append_left (header S ++ truth_bytes S ++ link_bytes S) (designated_bytes S) 0 (5 + k) (omega (arith, length-append (header S ++ truth_bytes S) (link_bytes S), length-append (header S) (truth_bytes S), length-truths))
      ∙ get_or_append_left (header S ++ truth_bytes S) (link_bytes S) 0 (5 + k) (omega (arith, length-append (header S) (truth_bytes S), length-truths))
      ∙ get_or-append-add (header S) (truth_bytes S) k 0

  in_links : (k : ℕ) → k < S.agents * agent_size S → get_or (bytes_of S) (links_begin S + k) 0 ≡ get_or (link_bytes S) k 0
  unfolding bytes_of
  in_links k l =
      let before : length (header S ++ truth_bytes S) + k ≡ links_begin S + k = omega (arith, length-append (header S) (truth_bytes S), length-truths) in
      get_or_append_left (header S ++ truth_bytes S ++ link_bytes S) (designated_bytes S) 0 (links_begin S + k) (omega (arith, length-append (header S ++ truth_bytes S) (link_bytes S), length-links, before))
      ∙ ap (λ n. get_or (header S ++ truth_bytes S ++ link_bytes S) n 0) (sym before)
      ∙ get_or-append-add (header S ++ truth_bytes S) (link_bytes S) k 0

  in_designated : (k : ℕ) → get_or (bytes_of S) (designated_begin S + k) 0 ≡ get_or (designated_bytes S) k 0
  unfolding bytes_of
  in_designated k =
      let before : length (header S ++ truth_bytes S ++ link_bytes S) + k ≡ designated_begin S + k =
      omega (arith, length-append (header S ++ truth_bytes S) (link_bytes S), length-append (header S) (truth_bytes S), length-truths, length-links) in
      ap (λ n. get_or (header S ++ truth_bytes S ++ link_bytes S ++ designated_bytes S) n 0) (sym before)
      ∙ get_or-append-add (header S ++ truth_bytes S ++ link_bytes S) (designated_bytes S) k 0

  -- the truth of an atom at a world
  pub truth_bit : (w p : ℕ) → w < S.worlds → p < S.atoms → bit_from (bytes_of S) (5 + w * row_size S.atoms) p ≡ get_or (truth_of S w) p false
  truth_bit w p l k =
      let long : length (truth_of S w) ≡ S.atoms = All-at (λ t. length t ≡ S.atoms) S.truth w [] (omega (arith, s.truths)) s.each_truth in
      let inside : p / 8 < row_size S.atoms = omega arith in
      let place : 5 + w * row_size S.atoms + p / 8 ≡ 5 + (w * row_size S.atoms + p / 8) = omega arith in
      ap (λ n. bit_at n (p % 8) == 1)
      (ap (λ n. get_or (bytes_of S) n 0) place
      ∙ in_truths (w * row_size S.atoms + p / 8) (omega (arith, mul-add-lt w (row_size S.atoms) (p / 8) S.worlds l inside))
      ∙ at_piece row_bytes (row_size S.atoms) S.truth w (p / 8) [] each_truth (omega (arith, s.truths)) inside)
      ∙ bit_of_row (truth_of S w) p (omega (arith, long))

  -- whether an agent links a world to a world
  pub link_bit : (a w v : ℕ) → a < S.agents → w < S.worlds → v < S.worlds →
      bit_from (bytes_of S) (links_begin S + (a * agent_size S + w * row_size S.worlds)) v ≡ has_number (successors (links_of S a) w) v
  link_bit a w v h l k =
      let inside : v / 8 < row_size S.worlds = omega arith in
      let row_inside : w * row_size S.worlds + v / 8 < agent_size S = omega (arith, mul-add-lt w (row_size S.worlds) (v / 8) S.worlds l inside) in
      let place : links_begin S + (a * agent_size S + w * row_size S.worlds) + v / 8 ≡ links_begin S + (a * agent_size S + (w * row_size S.worlds + v / 8)) = omega arith in
      ap (λ n. bit_at n (v % 8) == 1)
      (ap (λ n. get_or (bytes_of S) n 0) place
      ∙ in_links (a * agent_size S + (w * row_size S.worlds + v / 8)) (omega (arith, mul-add-lt a (agent_size S) (w * row_size S.worlds + v / 8) S.agents h row_inside))
      ∙ at_piece (agent_bytes S) (agent_size S) S.links a (w * row_size S.worlds + v / 8) [] each_agent (omega (arith, s.relations)) row_inside
      ∙ at_piece row_bytes (row_size S.worlds) (successor_rows S.worlds (links_of S a)) w (v / 8) [] (each_row (links_of S a)) (omega (arith, length-table (λ w. row_of S.worlds (successors (links_of S a) w)) S.worlds)) inside
      ∙ ap (λ row. get_or (row_bytes row) (v / 8) 0) (get_or-table (λ w. row_of S.worlds (successors (links_of S a) w)) S.worlds w [] l))
      ∙ bit_of_row (row_of S.worlds (successors (links_of S a) w)) v (omega (arith, length-table (has_number (successors (links_of S a) w)) S.worlds))
      ∙ get_or-table (has_number (successors (links_of S a) w)) S.worlds v false k

  -- whether a world is designated
  pub designated_bit : (v : ℕ) → v < S.worlds → bit_from (bytes_of S) (designated_begin S) v ≡ has_number S.designated v
  designated_bit v k =
      ap (λ n. bit_at n (v % 8) == 1) (in_designated (v / 8))
      ∙ bit_of_row (row_of S.worlds S.designated) v (omega (arith, length-table (has_number S.designated) S.worlds))
      ∙ get_or-table (has_number S.designated) S.worlds v false k

-- two states with the same values
pub record HaveSame (S R : Kripke) : Type 0 where
  pub worlds : S.worlds ≡ R.worlds
  pub agents : S.agents ≡ R.agents
  pub atoms : S.atoms ≡ R.atoms
  pub truth : (w p : ℕ) → w < S.worlds → p < S.atoms → get_or (truth_of S w) p false ≡ get_or (truth_of R w) p false
  pub links : (a w v : ℕ) → a < S.agents → w < S.worlds → v < S.worlds → has_number (successors (links_of S a) w) v ≡ has_number (successors (links_of R a) w) v
  pub designated : (v : ℕ) → v < S.worlds → has_number S.designated v ≡ has_number R.designated v

module _ (S R : Kripke) (s : IsState S) (r : IsState R) (h : HaveSame S R) where
  same_truth : S.truth ≡ R.truth
  same_truth = same_places [] S.truth R.truth (s.truths ∙ h.worlds ∙ sym r.truths) (λ w l.
      let in_S : w < S.worlds = omega (arith, s.truths) in
      let long : length (truth_of S w) ≡ S.atoms = All-at (λ t. length t ≡ S.atoms) S.truth w [] l s.each_truth in
      let other : length (truth_of R w) ≡ R.atoms = All-at (λ t. length t ≡ R.atoms) R.truth w [] (omega (arith, r.truths, h.worlds)) r.each_truth in
      same_places false (truth_of S w) (truth_of R w) (long ∙ h.atoms ∙ sym other) (λ p k. h.truth w p in_S (omega (arith, long))))

  same_links : S.links ≡ R.links
  same_links = same_places [] S.links R.links (s.relations ∙ h.agents ∙ sym r.relations) (λ a l.
      let agent : a < S.agents = omega (arith, s.relations) in
      same_rising pair_cmp pairs (links_of S a) (links_of R a) (links_rising S s a) (links_rising R r a)
      (λ p i.
      let b = links_within S s a p.0 p.1 i in
      from_successors p.0 p.1 (links_of R a) (from_has_number (successors (links_of R a) p.0) p.1
      (sym (h.links a p.0 p.1 agent b.0 b.1) ∙ to_has_number (successors (links_of S a) p.0) p.1 (IsIn-successors p.0 p.1 (links_of S a) i))))
      (λ p i.
      let b = links_within R r a p.0 p.1 i in
      from_successors p.0 p.1 (links_of S a) (from_has_number (successors (links_of S a) p.0) p.1
      (h.links a p.0 p.1 agent (omega (arith, b.0, h.worlds)) (omega (arith, b.1, h.worlds)) ∙ to_has_number (successors (links_of R a) p.0) p.1 (IsIn-successors p.0 p.1 (links_of R a) i)))))

  same_designated : S.designated ≡ R.designated
  same_designated = same_rising nat_cmp numbers S.designated R.designated s.designated_rising r.designated_rising
      (λ v i.
      let b = at_All (λ w. w < S.worlds) v S.designated s.designated_within i in
      from_has_number R.designated v (sym (h.designated v b) ∙ to_has_number S.designated v i))
      (λ v i.
      let b = at_All (λ w. w < R.worlds) v R.designated r.designated_within i in
      from_has_number S.designated v (h.designated v (omega (arith, b, h.worlds)) ∙ to_has_number R.designated v i))

  pub same_from_values : S ≡ R
  same_from_values = λ i. record { worlds = h.worlds i; agents = h.agents i; atoms = h.atoms i; truth = same_truth i; links = same_links i; designated = same_designated i }

-- states with the same bytes are equal
module _ (S R : Kripke) (s : IsState S) (r : IsState R) (e : bytes_of S ≡ bytes_of R) where
  byte : (k : ℕ) → get_or (bytes_of S) k 0 ≡ get_or (bytes_of R) k 0
  byte k = ap (λ bytes. get_or bytes k 0) e

  worlds : S.worlds ≡ R.worlds
  worlds = omega (arith, first_of_bytes S, first_of_bytes R, byte 0, byte 1)

  agents : S.agents ≡ R.agents
  agents = sym (agents_of_bytes S) ∙ byte 2 ∙ agents_of_bytes R

  atoms : S.atoms ≡ R.atoms
  atoms = omega (arith, atoms_of_bytes S, atoms_of_bytes R, byte 3, byte 4)

  links_place : links_begin S ≡ links_begin R
  links_place = λ i. 5 + worlds i * row_size (atoms i)

  pub same_bytes : S ≡ R
  same_bytes = same_from_values S R s r (record {
    worlds = worlds;
    agents = agents;
    atoms = atoms;
    truth = λ w p l k.
        sym (truth_bit S s w p l k) ∙ (λ i. bit_from (e i) (5 + w * row_size (atoms i)) p) ∙ truth_bit R r w p (omega (arith, worlds)) (omega (arith, atoms));
    links = λ a w v h l k.
        sym (link_bit S s a w v h l k)
        ∙ (λ i. bit_from (e i) (links_place i + (a * (worlds i * row_size (worlds i)) + w * row_size (worlds i))) v)
        ∙ link_bit R r a w v (omega (arith, agents)) (omega (arith, worlds)) (omega (arith, worlds));
    designated = λ v k.
        sym (designated_bit S s v k) ∙ (λ i. bit_from (e i) (links_place i + agents i * (worlds i * row_size (worlds i))) v) ∙ designated_bit R r v (omega (arith, worlds));
  })

pub bytes_decide : (S R : Kripke) → IsState S → IsState R → (bytes_of S ≡ bytes_of R) ↔ (S ≡ R)
bytes_decide S R s r = (same_bytes S R s r, ap bytes_of)
