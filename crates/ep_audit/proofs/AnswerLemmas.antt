-- Both sides of what the functions of the audit answer.
use Rattle.std.proofs.Common.{◌≡◌, ◌≢◌, ℕ, zero, suc, ◌+◌, ◌*◌, ◌/◌, ◌%◌, ◌<◌, ◌≤◌, ◌^◌, ◌⊎◌, Bool, false, List, [], ◌∷◌, ◌++◌, length, map, get_or, All, Option, Some, None, Result, Ok, Err, IsTrue, refl, sym, ap, ◌∙◌, subst, arith, inl, inr, decimal, codes}
use Rattle.std.specs.Prelude.{slice_get, IfOk, ◌↔◌}
use Rattle.std.specs.List.{AllByRecursion}
use Rattle.std.proofs.lemmas.List.{append_cancel_left}
use Rattle.std.proofs.lemmas.List.Elements.{All-head, All-tail}
use Rattle.std.specs.Prelude.{nat_eq}
use Rattle.std.specs.Cmp.Lexicographic.{pointwise}
use Rattle.std.proofs.lemmas.Bool.{false≢true}
use Rattle.std.proofs.lemmas.Slice.Eq.{bytes_eq-Decides}
use Rattle.hex.specs.declared.error.FromHexError.TheVariants.{OutOfMemory}
use Rattle.std.proofs.lemmas.Option.{same_Some, slice_get_within}
use Rattle.std.proofs.lemmas.Fmt.{decimal_injective}
use Rattle.hex.specs.Hex.{IsBytes, decode_of, encode_lower}
use Rattle.hex.specs.declared.error.FromHexError.{FromHexError}
use Rattle.hex.proofs.HexLemmas.{decode_of-encode_lower}
use Rattle.ep_theory.specs.Rising.{IsIn}
use Rattle.ep_theory.specs.Kripke.{Kripke, IsState}
use Rattle.ep_theory.specs.Events.{EventModel, IsAction, event_at}
use Rattle.ep_theory.specs.Fits.{Fits, EventFits, ActionFits}
use Rattle.ep_theory.specs.Product.{IsApplicable, IsStuckAt, product_of}
use Rattle.ep_theory.proofs.CallerLemmas.{All-at}
use Rattle.ep_theory.proofs.CallerLemmas.{at_All}
use Rattle.ep_bounds.specs.declared.bounds.TheConstants.{MOST_WORLDS}
use Rattle.ep_bytes.specs.Bytes.{IsWithin, bytes_of}
use Rattle.ep_audit.specs.Lines.{field, map_text, entry_head}
use Rattle.ep_audit.specs.NamedTasks.{NamedTask, cost_of}
use Rattle.ep_audit.specs.Certificates.{action_count, IsDue}
use Rattle.ep_audit.specs.declared.progress.Progress.{Progress}
use Rattle.std.proofs.Math.Dec.{leb}
use Rattle.std.proofs.Math.Nat.{div-lt_iff_lt-mul, mul-le-mul_left}
use Rattle.std.proofs.lemmas.Bool.{leb-true, le-leb}
use Rattle.ep_theory.specs.Maps.{Maps}
use Rattle.ep_audit.specs.Shown.{IsBelow, IsEntryLine, ShowsMap, ShowsStuck, ShowsProduct}
use Rattle.ep_audit.proofs.TextLemmas.{cut_once, decimal_lacks, entry_parts}
use Rattle.ep_audit.proofs.FieldLemmas.{parts_of, parts_of_map}
use Rattle.ep_audit.proofs.MapLemmas.{relates_at}

-- a piece with the byte does not lack it
pub has_byte : (c : ℕ) (x y : List ℕ) → All (λ b. b ≢ c) (x ++ c ∷ y) → ⊥
has_byte c [] y h = All-head (λ b. b ≢ c) c y h refl
has_byte c (b ∷ x) y h = has_byte c x y (All-tail (λ b. b ≢ c) b (x ++ c ∷ y) h)

-- ---- entries

pub hex_is : (text x b : List ℕ) → decode_of text ≡ Ok x → IsBytes b → text ≡ encode_lower b → x ≡ b
hex_is text x b h k e = let one : Ok x ≡ Ok b = sym h ∙ ap decode_of e ∙ decode_of-encode_lower b k in cc

pub hex_not : (text b : List ℕ) (f : FromHexError) → decode_of text ≡ Err f → IsBytes b → text ≡ encode_lower b → ⊥
hex_not text b f h k e = let one : Err f ≡ Ok b = sym h ∙ ap decode_of e ∙ decode_of-encode_lower b k in cc

pub hex_refused : (text b : List ℕ) (f : FromHexError) → (f ≡ OutOfMemory → ⊥) → (f ≡ OutOfMemory) ⊎ (decode_of text ≡ Err f) → IsBytes b → text ≡ encode_lower b → ⊥
hex_refused text b f ne (inl e) k t = ne e
hex_refused text b f ne (inr h) k t = hex_not text b f h k t

pub differ : (xs ys : List ℕ) → false ≡ pointwise nat_eq xs ys → xs ≡ ys → ⊥
differ xs ys h e = false≢true (h ∙ (bytes_eq-Decides xs ys).1 e)

-- the parts of the line of an entry
pub entry_is : (place bound : ℕ) (line rest digits text : List ℕ) (e : Kripke × ℕ) → bound ≤ 1000 → line ≡ entry_head place ++ rest → rest ≡ digits ++ 32 ∷ text → All (λ b. b ≢ 32) digits
    → IsEntryLine place bound line e → (digits ≡ decimal e.1) × (text ≡ encode_lower (bytes_of e.0))
entry_is place bound line rest digits text e few head parts lacks h =
    let own = append_cancel_left (entry_head place) rest (decimal e.1 ++ 32 ∷ encode_lower (bytes_of e.0)) (sym head ∙ h.is_line ∙ entry_parts place e) in
    cut_once 32 digits (decimal e.1) text (encode_lower (bytes_of e.0)) lacks (decimal_lacks 32 (omega arith) e.1 (omega (arith, few, h.cheap))) (sym parts ∙ own)

pub entry_headless : (place bound : ℕ) (line : List ℕ) (e : Kripke × ℕ) → ((rest : List ℕ) → line ≢ entry_head place ++ rest) → IsEntryLine place bound line e → ⊥
entry_headless place bound line e never h = never (decimal e.1 ++ 32 ∷ encode_lower (bytes_of e.0)) (h.is_line ∙ entry_parts place e)

pub entry_uncut : (place bound : ℕ) (line rest : List ℕ) (e : Kripke × ℕ) → line ≡ entry_head place ++ rest → All (λ b. b ≢ 32) rest → IsEntryLine place bound line e → ⊥
entry_uncut place bound line rest e head lacks h =
    let own = append_cancel_left (entry_head place) rest (decimal e.1 ++ 32 ∷ encode_lower (bytes_of e.0)) (sym head ∙ h.is_line ∙ entry_parts place e) in
    has_byte 32 (decimal e.1) (encode_lower (bytes_of e.0)) (subst (All (λ b. b ≢ 32)) own lacks)

pub entry_whole : (place bound w : ℕ) (line rest digits text : List ℕ) (S : Kripke) → line ≡ entry_head place ++ rest → rest ≡ digits ++ 32 ∷ text → digits ≡ decimal w → w ≤ bound
    → IsState S → IsWithin MOST_WORLDS S → text ≡ encode_lower (bytes_of S) → IsEntryLine place bound line (S, w)
entry_whole place bound w line rest digits text S head parts d cheap s small t = record {
  is_line = head ∙ ap (λ r. entry_head place ++ r) (parts ∙ ap (λ x. x ++ 32 ∷ text) d ∙ ap (λ x. decimal w ++ 32 ∷ x) t) ∙ sym (entry_parts place (S, w));
  valid = s;
  small = small;
  cheap = cheap;
}

-- ---- maps

field_one : (most : ℕ) → most ≤ 2 ^ 32 → (f g : Option ℕ) → IsBelow most f → IsBelow most g → field f ≡ field g → f ≡ g
field_one most few None None h k e = refl
field_one most few None (Some v) h k e = absurd (dash v (omega (arith, k, few)) e)
  where
    dash : (v : ℕ) → v < 2 ^ 64 → codes "-" ≡ decimal v → ⊥
    dash v l e = All-head (λ b. b ≢ 45) 45 [] (subst (All (λ b. b ≢ 45)) (sym e) (decimal_lacks 45 (omega arith) v l)) refl
field_one most few (Some v) None h k e = absurd (dash v (omega (arith, h, few)) (sym e))
  where
    dash : (v : ℕ) → v < 2 ^ 64 → codes "-" ≡ decimal v → ⊥
    dash v l e = All-head (λ b. b ≢ 45) 45 [] (subst (All (λ b. b ≢ 45)) (sym e) (decimal_lacks 45 (omega arith) v l)) refl
field_one most few (Some v) (Some w) h k e = ap Some (decimal_injective v w (omega (arith, h, few)) (omega (arith, k, few)) e)

fields_one : (most : ℕ) → most ≤ 2 ^ 32 → (m n : List (Option ℕ)) → AllByRecursion (IsBelow most) m → AllByRecursion (IsBelow most) n → map field m ≡ map field n → m ≡ n
fields_one most few [] [] h k e = refl
fields_one most few [] (g ∷ n) h k e = cc
fields_one most few (f ∷ m) [] h k e = cc
fields_one most few (f ∷ m) (g ∷ n) h k e =
    let one : field f ≡ field g = cc in
    let rest : map field m ≡ map field n = cc in
    let a = field_one most few f g h.0 k.0 one in
    let b = fields_one most few m n h.1 k.1 rest in
    cc

pub one_map : (most : ℕ) → most ≤ 2 ^ 32 → (m n : List (Option ℕ)) → 0 < length m → 0 < length n → AllByRecursion (IsBelow most) m → AllByRecursion (IsBelow most) n → map_text m ≡ map_text n → m ≡ n
one_map most few m n some other h k e =
    fields_one most few m n h k (sym (parts_of_map most few m some h) ∙ ap parts_of e ∙ parts_of_map most few n other k)

-- each number of a map is that of a world
all_below : (most : ℕ) (m : List (Option ℕ)) → ((w v : ℕ) → get_or m w None ≡ Some v → v < most) → AllByRecursion (IsBelow most) m
all_below most [] h = tt
all_below most (None ∷ m) h = (tt, all_below most m (λ w v e. h (suc w) v e))
all_below most (Some x ∷ m) h = (h 0 x refl, all_below most m (λ w v e. h (suc w) v e))

pub maps_below : (S R : Kripke) (m : List (Option ℕ)) → Maps S R m → AllByRecursion (IsBelow R.worlds) m
maps_below S R m h = all_below R.worlds m (λ w v e. (h.bisimulation.within w v (relates_at m w v e)).1)

pub maps_some : (S R : Kripke) (m : List (Option ℕ)) → IsState S → Maps S R m → 0 < length m
maps_some S R m s h = omega (arith, h.long, s.some_world)

-- a map that was read is the one that is shown
pub shown_map : (S R : Kripke) (text : List ℕ) (m : List (Option ℕ)) → IsState S → R.worlds ≤ 2 ^ 32 → 0 < length m → AllByRecursion (IsBelow R.worlds) m → text ≡ map_text m → ShowsMap S R text → Maps S R m
shown_map S R text m s few some below e h =
    subst (Maps S R) (one_map R.worlds few h.0 m (maps_some S R h.0 s h.2) some (maps_below S R h.0 h.2) below (sym h.1 ∙ e)) h.2

pub no_shown_map : (S R : Kripke) (text : List ℕ) → IsState S → ((m : List (Option ℕ)) → 0 < length m → AllByRecursion (IsBelow R.worlds) m → text ≢ map_text m) → ShowsMap S R text → ⊥
no_shown_map S R text s never h = never h.0 (maps_some S R h.0 s h.2) (maps_below S R h.0 h.2) h.1

-- ---- steps

pub pre_fits : (S : Kripke) (A : EventModel) (e : ℕ) → e < length A.events → ActionFits S A → Fits S (event_at A e).pre
pre_fits S A e l h = (All-at (EventFits S) A.events e _ l h.events).pre

pub event_within : (A : EventModel) (e : ℕ) → IsAction A → IsIn e A.designated → e < length A.events
event_within A e a i = at_All (λ e. e < length A.events) e A.designated a.designated_within i

pub world_within : (S : Kripke) (w : ℕ) → IsState S → IsIn w S.designated → w < S.worlds
world_within S w s i = at_All (λ w. w < S.worlds) w S.designated s.designated_within i

pub stuck_one : (S : Kripke) (A : EventModel) (digits : List ℕ) (w : ℕ) → IsState S → S.worlds ≤ 65536 → w ≤ S.worlds → digits ≡ decimal w → ShowsStuck S A digits → IsStuckAt S A w
stuck_one S A digits w s few small e h =
    let l = world_within S h.0 s h.2.0 in
    subst (IsStuckAt S A) (decimal_injective h.0 w (omega (arith, l, few)) (omega (arith, small, few)) (sym h.1 ∙ e)) h.2

pub stuck_none : (S : Kripke) (A : EventModel) (digits : List ℕ) → IsState S → ((n : ℕ) → n ≤ S.worlds → digits ≢ decimal n) → ShowsStuck S A digits → ⊥
stuck_none S A digits s never h = let l = world_within S h.0 s h.2.0 in never h.0 (omega (arith, l)) h.1

-- the parts of the text of a product
pub product_is : (entries : List (Kripke × ℕ)) (most : ℕ) (S : Kripke) (A : EventModel) (text digits rest : List ℕ) → length entries ≤ 16384 → text ≡ digits ++ 32 ∷ rest → All (λ b. b ≢ 32) digits
    → (p : ShowsProduct entries most S A text) → (digits ≡ decimal p.place) × (rest ≡ codes "map " ++ map_text p.map) × (p.place < 16384)
product_is entries most S A text digits rest few parts lacks p =
    let l = slice_get_within entries p.place p.entry p.at in
    let cut = cut_once 32 digits (decimal p.place) rest (codes "map " ++ map_text p.map) lacks (decimal_lacks 32 (omega arith) p.place (omega (arith, l, few))) (sym parts ∙ p.is_text) in
    (cut.0, cut.1, omega (arith, l, few))

pub product_uncut : (entries : List (Kripke × ℕ)) (most : ℕ) (S : Kripke) (A : EventModel) (text : List ℕ) → All (λ b. b ≢ 32) text → ShowsProduct entries most S A text → ⊥
product_uncut entries most S A text lacks p = has_byte 32 (decimal p.place) (codes "map " ++ map_text p.map) (subst (All (λ b. b ≢ 32)) p.is_text lacks)

-- ---- answers that may want memory

pub ok_iff : {E : Type 0} (r : Result Bool E) (P Q : Type 0) → (P → Q) → (Q → P) → IfOk r (λ b. IsTrue b ↔ P) → IfOk r (λ b. IsTrue b ↔ Q)
ok_iff (Ok b) P Q f g h = (λ t. f (h.0 t), λ q. h.1 (g q))
ok_iff (Err x) P Q f g h = h

pub ok_same : {E : Type 0} (r : Result Bool E) (A : Type 0) (P : A → Type 0) (x y : A) → x ≡ y → IfOk r (λ b. IsTrue b ↔ P x) → IfOk r (λ b. IsTrue b ↔ P y)
ok_same r A P x y e h = subst (λ z. IfOk r (λ b. IsTrue b ↔ P z)) e h

pub never_true : (P : Type 0) → (P → ⊥) → IsTrue false ↔ P
never_true P n = (λ t. (cc), λ p. absurd (n p))

-- ---- what a step shows

-- a product that was made, and an entry that was found
pub shown_product : (entries : List (Kripke × ℕ)) (most place : ℕ) (S : Kripke) (A : EventModel) (text digits rest fields : List ℕ) (R : Kripke × ℕ) (P : Kripke)
    → text ≡ digits ++ 32 ∷ rest → digits ≡ decimal place → rest ≡ codes "map " ++ fields → slice_get entries place ≡ Some R → R.1 ≤ most → IsApplicable S A → P ≡ product_of S A
    → ShowsMap P R.0 fields → ShowsProduct entries most S A text
shown_product entries most place S A text digits rest fields R P parts d r at cheap applies made m = record {
  place = place;
  map = m.0;
  is_text = parts ∙ ap (λ x. x ++ 32 ∷ rest) d ∙ ap (λ x. decimal place ++ 32 ∷ x) (r ∙ ap (λ x. codes "map " ++ x) m.1);
  entry = R;
  at = at;
  cheap = cheap;
  applicable = applies;
  maps = subst (λ Q. Maps Q R.0 m.0) made m.2;
}

pub place_is : (entries : List (Kripke × ℕ)) (most place : ℕ) (S : Kripke) (A : EventModel) (text digits rest : List ℕ) → length entries ≤ 16384 → text ≡ digits ++ 32 ∷ rest → All (λ b. b ≢ 32) digits
    → digits ≡ decimal place → place ≤ 16384 → (p : ShowsProduct entries most S A text) → p.place ≡ place
place_is entries most place S A text digits rest few parts lacks d small p =
    let q = product_is entries most S A text digits rest few parts lacks p in
    decimal_injective p.place place (omega (arith, q.2)) (omega (arith, small)) (sym q.0 ∙ d)

-- what was shown of an entry that was found
pub product_shown : (entries : List (Kripke × ℕ)) (most place : ℕ) (S : Kripke) (A : EventModel) (text digits rest fields : List ℕ) (R : Kripke × ℕ) (P : Kripke) → length entries ≤ 16384
    → text ≡ digits ++ 32 ∷ rest → All (λ b. b ≢ 32) digits → digits ≡ decimal place → place ≤ 16384 → rest ≡ codes "map " ++ fields → slice_get entries place ≡ Some R → P ≡ product_of S A
    → ShowsProduct entries most S A text → ShowsMap P R.0 fields
product_shown entries most place S A text digits rest fields R P few parts lacks d small r at made p =
    let q = product_is entries most S A text digits rest few parts lacks p in
    let same = place_is entries most place S A text digits rest few parts lacks d small p in
    let entry : p.entry ≡ R = same_Some p.entry R (sym p.at ∙ ap (slice_get entries) same ∙ at) in
    let own : fields ≡ map_text p.map = append_cancel_left (codes "map ") fields (map_text p.map) (sym r ∙ q.1) in
    (p.map, own, subst (λ Q. Maps Q R.0 p.map) (sym made) (subst (λ (X : Kripke × ℕ). Maps (product_of S A) X.0 p.map) entry p.maps))

pub due_iff : (T : NamedTask) (told : Progress) (q x y z : ℕ) (e : Kripke × ℕ) → slice_get told.entries (q / action_count T) ≡ Some e → x ≡ e.1 → y ≡ cost_of T (q % action_count T) → z ≡ told.bound
    → (IsTrue (leb (x + y) z) → IsDue T told q) × (IsDue T told q → IsTrue (leb (x + y) z))
due_iff T told q x y z e at a b c = (
  (λ t. record { entry = e; at = at; cheap = (let l = leb-true (x + y) z t in omega (arith, l, a, b, c)) }),
  (λ d.
      let same : d.entry ≡ e = same_Some d.entry e (sym d.at ∙ at) in
      let w : d.entry.1 ≡ e.1 = ap (λ (p : Kripke × ℕ). p.1) same in
      le-leb (x + y) z (omega (arith, d.cheap, w, a, b, c))),
)

some_factor : (k n q : ℕ) → q < k * n → 0 < n
some_factor k zero q h = absurd (omega (arith, h))
some_factor k (suc n) q h = omega arith

pub entry_of : (k n q : ℕ) → q < k * n → q / n < k
entry_of k n q h = (div-lt_iff_lt-mul (some_factor k n q h)).1 h

pub pair_small : (k n q : ℕ) → q < k * n → k ≤ 16384 → n ≤ 1024 → q + 1 < 2 ^ 32
pair_small k n q h a b = omega (arith, h, mul-le-mul_left k b, a)
