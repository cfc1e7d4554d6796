-- What bytes tell is the state whose bytes they are.
use Rattle.std.proofs.Common.{◌≡◌, ◌≢◌, ℕ, ◌+◌, ◌*◌, ◌<◌, ◌≤◌, Bool, true, false, not, List, [], length, get_or, refl, sym, ap, subst, ◌∙◌, arith}
use Rattle.std.specs.Prelude.{nat_eq}
use Rattle.std.specs.Cmp.Lexicographic.{pointwise}
use Rattle.std.proofs.lemmas.Bool.{false≢true}
use Rattle.std.proofs.lemmas.Slice.Eq.{bytes_eq-Decides}
use Rattle.ep_theory.specs.Rising.{IsIn}
use Rattle.ep_logic.specs.Numbers.{has_number}
use Rattle.ep_theory.specs.Kripke.{Kripke, IsState, successors}
use Rattle.ep_theory.proofs.CallerLemmas.{some_element, at_All, in_numbers, to_has_number}
use Rattle.ep_logic.proofs.CallerLemmas.{get_or-table}
use Rattle.ep_bytes.specs.declared.limits.TheConstants.{MOST_WRITTEN_WORLDS}
use Rattle.ep_bytes.specs.declared.reading.Sizes.{Sizes}
use Rattle.ep_bytes.specs.declared.reading.ReadError.{ReadError}
use Rattle.ep_bytes.specs.declared.reading.ReadError.TheVariants.{NoState, OutOfMemory}
use Rattle.ep_bytes.specs.Bytes.{row_size, bytes_of}
use Rattle.ep_bytes.specs.Reading.{HasBytes, IsRefused, AreSmall, AreSizes, bit_from, agent_size, links_begin, designated_begin, whole_length, told_row, told_designated, told}
use Rattle.ep_bytes.proofs.BytesLemmas.{first_of_bytes, agents_of_bytes, atoms_of_bytes, length-bytes, truth_bit, link_bit, designated_bit, same_from_values, same_bytes}
use Rattle.ep_bytes.proofs.ToldLemmas.{has_chosen, has_paired, told_worlds, told_links}

module _ (most : ℕ) (bytes : List ℕ) (D : Kripke) (h : HasBytes most bytes D) (limit : most ≤ MOST_WRITTEN_WORLDS) where
  byte : (k : ℕ) → get_or (bytes_of D) k 0 ≡ get_or bytes k 0
  byte k = ap (λ b. get_or b k 0) h.own

  back : bytes ≡ bytes_of D
  back = sym h.own

  -- the sizes that the bytes tell
  told_sizes : (get_or bytes 0 0 * 256 + get_or bytes 1 0 ≡ D.worlds) × (get_or bytes 2 0 ≡ D.agents) × (get_or bytes 3 0 * 256 + get_or bytes 4 0 ≡ D.atoms)
  told_sizes = (
    (let f = first_of_bytes D in omega (arith, f.0, f.1, byte 0, byte 1)),
    sym (byte 2) ∙ agents_of_bytes D,
    (let f = atoms_of_bytes D in omega (arith, f.0, f.1, byte 3, byte 4)),
  )

  long : length bytes ≡ 5 + D.worlds * row_size D.atoms + D.agents * (D.worlds * row_size D.worlds) + row_size D.worlds
  long = ap length (sym h.own) ∙ length-bytes D h.valid

  pub not_short : length bytes < 5 → ⊥
  not_short l = absurd (omega (arith, l, long))

  module _ (s : Sizes) (w : s.worlds ≡ get_or bytes 0 0 * 256 + get_or bytes 1 0) (a : s.agents ≡ get_or bytes 2 0) (p : s.atoms ≡ get_or bytes 3 0 * 256 + get_or bytes 4 0) where
    worlds : s.worlds ≡ D.worlds
    worlds = w ∙ told_sizes.0

    agents : s.agents ≡ D.agents
    agents = a ∙ told_sizes.1

    atoms : s.atoms ≡ D.atoms
    atoms = p ∙ told_sizes.2

    pub are_small : AreSmall s
    are_small = record {
      some_world = omega (arith, worlds, h.valid.some_world);
      worlds = omega (arith, worlds, h.small.worlds, limit);
      agents = omega (arith, agents, h.small.agents);
      atoms = omega (arith, atoms, h.small.atoms);
    }

    pub are_few : s.worlds ≤ most
    are_few = omega (arith, worlds, h.small.worlds)

    pub are_long : length bytes ≡ whole_length s
    are_long = long ∙ sym (λ i. 5 + worlds i * row_size (atoms i) + agents i * (worlds i * row_size (worlds i)) + row_size (worlds i))

    bit_of_designated : (v : ℕ) → v < D.worlds → bit_from bytes (designated_begin s) v ≡ has_number D.designated v
    bit_of_designated v l =
        (λ i. bit_from (back i) (5 + worlds i * row_size (atoms i) + agents i * (worlds i * row_size (worlds i))) v) ∙ designated_bit D h.valid v l

    -- some world is designated
    pub tells_designated : told_designated bytes s ≡ [] → ⊥
    tells_designated e =
        let d = some_element D.designated h.valid.some_designated in
        let l : d.0 < D.worlds = at_All (λ x. x < D.worlds) d.0 D.designated h.valid.designated_within d.1 in
        let chosen : IsIn d.0 (told_designated bytes s) = in_numbers (bit_from bytes (designated_begin s)) s.worlds d.0 (omega (arith, l, worlds)) (bit_of_designated d.0 l ∙ to_has_number D.designated d.0 d.1) in
        subst (IsIn d.0) e chosen

    pub tells_state : IsState (told bytes s) → told bytes s ≡ D
    tells_state t = same_from_values (told bytes s) D t h.valid (record {
      worlds = told_worlds bytes s ∙ worlds;
      agents = agents;
      atoms = atoms;
      truth = λ w p l k.
          let in_s : w < s.worlds = omega (arith, l, told_worlds bytes s) in
          ap (λ row. get_or row p false) (get_or-table (λ w. told_row bytes (5 + w * row_size s.atoms) s.atoms) s.worlds w [] in_s)
          ∙ get_or-table (bit_from bytes (5 + w * row_size s.atoms)) s.atoms p false k
          ∙ (λ i. bit_from (back i) (5 + w * row_size (atoms i)) p)
          ∙ truth_bit D h.valid w p (omega (arith, in_s, worlds)) (omega (arith, k, atoms));
      links = λ a w v g l k.
          let in_w : w < s.worlds = omega (arith, l, told_worlds bytes s) in
          let in_v : v < s.worlds = omega (arith, k, told_worlds bytes s) in
          let place : links_begin s + a * agent_size s + w * row_size s.worlds ≡ links_begin s + (a * agent_size s + w * row_size s.worlds) = omega arith in
          ap (λ ps. has_number (successors ps w) v) (told_links bytes s a g)
          ∙ has_paired (λ w v. bit_from bytes (links_begin s + a * agent_size s + w * row_size s.worlds) v) s.worlds w v in_w in_v
          ∙ ap (λ at. bit_from bytes at v) place
          ∙ (λ i. bit_from (back i) (5 + worlds i * row_size (atoms i) + (a * (worlds i * row_size (worlds i)) + w * row_size (worlds i))) v)
          ∙ link_bit D h.valid a w v (omega (arith, g, agents)) (omega (arith, in_w, worlds)) (omega (arith, in_v, worlds));
      designated = λ v l.
          let in_v : v < s.worlds = omega (arith, l, told_worlds bytes s) in
          has_chosen (bit_from bytes (designated_begin s)) s.worlds v in_v ∙ bit_of_designated v (omega (arith, in_v, worlds));
    })

-- what the bytes tell has other bytes only where no state has these
pub other_bytes : (most : ℕ) (bytes : List ℕ) (s : Sizes) (T : Kripke) → most ≤ MOST_WRITTEN_WORLDS → AreSizes bytes s → T ≡ told bytes s → IsState T → bytes_of T ≢ bytes → (D : Kripke) → HasBytes most bytes D → ⊥
other_bytes most bytes s T limit sizes e t apart D h =
    let is : T ≡ D = e ∙ tells_state most bytes D h limit s sizes.worlds sizes.agents sizes.atoms (subst IsState e t) in
    apart (ap bytes_of is ∙ h.own)

pub one_state : (most : ℕ) (bytes : List ℕ) (C D : Kripke) → IsState C → bytes_of C ≡ bytes → HasBytes most bytes D → D ≡ C
one_state most bytes C D c e h = same_bytes D C h.valid c (h.own ∙ sym e)

-- fewer states have the bytes under a smaller limit
pub refused_below : (most : ℕ) (bytes : List ℕ) (error : ReadError) → most ≤ MOST_WRITTEN_WORLDS → IsRefused MOST_WRITTEN_WORLDS bytes error → IsRefused most bytes error
refused_below most bytes NoState limit r = λ D h. r D (record { valid = h.valid; small = record { worlds = (let few = h.small.worlds in omega (arith, few, limit)); agents = h.small.agents; atoms = h.small.atoms }; own = h.own })
refused_below most bytes OutOfMemory limit r = tt

-- what a comparison of bytes says
not_false : (b : Bool) → false ≡ not b → b ≡ true
not_false true h = refl
not_false false h = h

pub bytes_agree : (xs ys : List ℕ) → false ≡ not (pointwise nat_eq xs ys) → xs ≡ ys
bytes_agree xs ys h = (bytes_eq-Decides xs ys).0 (not_false (pointwise nat_eq xs ys) h)

pub bytes_differ : (xs ys : List ℕ) → true ≡ not (pointwise nat_eq xs ys) → xs ≢ ys
bytes_differ xs ys h e = false≢true (sym (h ∙ ap not ((bytes_eq-Decides xs ys).1 e)))
