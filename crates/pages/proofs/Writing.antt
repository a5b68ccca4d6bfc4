-- Bytes written one run after the other.
--     apart             runs of bytes are apart where a byte differs
--     part-start        the part of a list from its start on
--     wrote_nothing     nothing is written
--     wrote_after       a run of bytes, then another
--     wrote_copied      bytes copied to the page from the place on
--     copied, copied_start      a page copied to a buffer, at whose start then stands what was written to the page
--     wrote_byte        one byte
--     wrote_low, wrote_more     the digits of a number below ten; of any other, after those of a tenth of it
--     room-low, room_more       there is room for the last digit, and for those before it
--     wires_more, wires-all     the numbers of one wire more, of all of them
use Prim.Native.Nat.{ℕ, suc, ◌+◌, ◌-◌, ◌/◌, ◌%◌, ◌≤◌, ◌<◌}
use native.Mathlib.Omega.{arith}
use mathlib.Core.Path.{◌≡◌, refl, sym, ◌∙◌, ap, ap₂, subst}
use mathlib.Core.Bool.{false, true≢false}
use mathlib.Core.List.{List, [], ◌∷◌, ◌++◌, append_assoc, append-nil}
use borrow.Author.Tests.{eq-eqb}
use lib.Dec.{eqb}
use lib.ListN.{length, length-append, take, drop, set, get_or}
use lib.Seq.{take_all, take-suc, length-take-le, take-suc-set, drop-set-lt, drop-drop, take_at, drop_at}
use borrow.Rule.Slice.PartMut.{put_mid, Post-is}
use Rattle.basics.specs.Quoted.{bytes}
use Rattle.basics.proofs.Folds.{fold-append}
use Rattle.pages.specs.Decimal.{digit_byte, decimal}
use Rattle.pages.specs.Page.{Wrote, wire_numbers}
use Rattle.pages.proofs.Numbers.{decimal-low, decimal_more}

pub apart : {l m : List ℕ} (at : ℕ) → l ≡ m → eqb (get_or l at 0) (get_or m at 0) ≡ false → ⊥
apart {l} {m} at e f = true≢false (sym (eq-eqb (get_or l at 0) (get_or m at 0) (ap (λ (k : List ℕ). get_or k at 0) e)) ∙ f)

pub part-start : (n : ℕ) (l : List ℕ) → take (n - 0) l ≡ take n l
part-start n l = let e : n - 0 ≡ n = omega arith in ap {B = List ℕ} (λ k. take k l) e

pub wrote_nothing : (page : List ℕ) (at : ℕ) → Wrote page at [] page at
wrote_nothing page at = record { end_is = omega arith; stands = sym (append-nil (take at page)); rest = refl }

pub wrote_after : (b : List ℕ) (at : ℕ) (m c : List ℕ) (e : ℕ) (n d : List ℕ) (f : ℕ) → Wrote b at m c e → Wrote c e n d f → Wrote b at (m ++ n) d f
wrote_after b at m c e n d f w x = record {
  end_is = omega (arith, w.end_is, x.end_is, length-append m n);
  stands = x.stands ∙ ap (λ (l : List ℕ). l ++ n) w.stands ∙ append_assoc (take at b) m n;
  rest = x.rest ∙ past c ∙ ap (drop (length n)) w.rest ∙ sym (past b);
}
  where
    past : (page : List ℕ) → drop f page ≡ drop (length n) (drop e page)
    past page = ap (λ (k : ℕ). drop k page) x.end_is ∙ sym (drop-drop (length n) e page)

-- a part of the page, as long as the bytes, was written over by them
pub wrote_copied : (page : List ℕ) (at : ℕ) (text part : List ℕ) → at + length text ≤ length page → part ≡ text
    → Wrote page at text (put_mid at (at + length text - at) page part) (at + length text)
wrote_copied page at text part room e =
    let start = take at page in
    let n = length text in
    let size : length (start ++ text) ≡ at + n = omega (arith, length-append start text, length-take-le at page (omega (arith, room))) in
    let whole : put_mid at (at + n - at) page part ≡ (start ++ text) ++ drop (at + n) page =
    ap₂ (λ (l m : List ℕ). start ++ (l ++ m)) e (Post-is at (at + n) page (omega arith))
    ∙ sym (append_assoc start text (drop (at + n) page)) in
    record {
      end_is = refl;
      stands = ap (take (at + n)) whole ∙ take_at (start ++ text) (drop (at + n) page) (at + n) size;
      rest = ap (drop (at + n)) whole ∙ drop_at (start ++ text) (drop (at + n) page) (at + n) size;
    }

-- what a buffer holds after the page up to its end was copied to the buffer's first bytes
abbrev pub copied : List ℕ → ℕ → List ℕ → List ℕ
copied page end buffer = put_mid 0 (end - 0) buffer (take (end - 0) page)

-- what was written to the page stands at the buffer's start, and what lies past it is as it was
pub copied_start : (blank text page : List ℕ) (end : ℕ) (buffer held : List ℕ) → Wrote blank 0 text page end → held ≡ copied page end buffer
    → (end ≡ length text) × (held ≡ text ++ drop (length text) buffer)
copied_start blank text page end buffer held w e =
    let size : end ≡ length text = omega (arith, w.end_is) in
    let size_0 : end - 0 ≡ length text = omega arith in (
      size,
      e ∙ ap₂ (λ (l : List ℕ) (n : ℕ). l ++ drop n buffer) (part-start end page ∙ w.stands) size_0,
    )

pub wrote_byte : (page : List ℕ) (at byte : ℕ) → at < length page → Wrote page at (byte ∷ []) (set page at byte) (at + 1)
wrote_byte page at byte room =
    let next : at + 1 ≡ suc at = omega arith in
    record {
      end_is = refl;
      stands = ap (λ (k : ℕ). take k (set page at byte)) next ∙ take-suc-set page at byte room;
      rest = drop-set-lt (at + 1) page at byte (omega arith);
    }

pub room-low : (at n room : ℕ) → n < 10 → at + length (decimal n) ≤ room → at < room
room-low at n room h r = let size = ap {B = ℕ} length (decimal-low n h) in omega (arith, size, r)

pub room_more : (at n room : ℕ) → 10 ≤ n → at + length (decimal n) ≤ room → at + length (decimal (n / 10)) < room
room_more at n room h r =
    let size = ap {B = ℕ} length (decimal_more n h) ∙ length-append (decimal (n / 10)) (digit_byte (n % 10) ∷ []) in omega (arith, size, r)

module _ (page : List ℕ) (at n : ℕ) where
  pub wrote_low : (after : List ℕ) (end : ℕ) → n < 10 → Wrote page at (digit_byte n ∷ []) after end → Wrote page at (decimal n) after end
  wrote_low after end h w = subst (λ (l : List ℕ). Wrote page at l after end) (sym (decimal-low n h)) w

  pub wrote_more : (mid : List ℕ) (next : ℕ) (after : List ℕ) (end : ℕ) → 10 ≤ n → Wrote page at (decimal (n / 10)) mid next
      → Wrote mid next (digit_byte (n % 10) ∷ []) after end → Wrote page at (decimal n) after end
  wrote_more mid next after end h w x =
      subst (λ (l : List ℕ). Wrote page at l after end) (sym (decimal_more n h))
      (wrote_after page at (decimal (n / 10)) mid next (digit_byte (n % 10) ∷ []) after end w x)

-- ---- the numbers of wires

module _ (page : List ℕ) (at : ℕ) (set : List ℕ) where
  pub wires_more : (mid : List ℕ) (end i : ℕ) (after : List ℕ) (next : ℕ) → i < length set → Wrote page at (wire_numbers (take i set)) mid end
      → Wrote mid end (bytes " " ++ decimal (get_or set i 0)) after next → Wrote page at (wire_numbers (take (i + 1) set)) after next
  wires_more mid end i after next h w x =
      subst (λ (l : List ℕ). Wrote page at l after next) (sym (numbers_more i h))
      (wrote_after page at (wire_numbers (take i set)) mid end (bytes " " ++ decimal (get_or set i 0)) after next w x)
    where
      one : ℕ → List ℕ
      one wire = bytes " " ++ decimal wire

      numbers_more : (i : ℕ) → i < length set → wire_numbers (take (i + 1) set) ≡ wire_numbers (take i set) ++ one (get_or set i 0)
      numbers_more i h =
          let more : i + 1 ≡ suc i = omega arith in
          ap (λ (k : ℕ). wire_numbers (take k set)) more ∙ ap wire_numbers (take-suc set i 0 h)
          ∙ fold-append ◌++◌ [] (λ l. refl) append_assoc one (take i set) (get_or set i 0 ∷ [])
          ∙ ap (λ (l : List ℕ). wire_numbers (take i set) ++ l) (append-nil (one (get_or set i 0)))

  pub wires-all : (after : List ℕ) (end i : ℕ) → length set ≤ i → Wrote page at (wire_numbers (take i set)) after end
      → Wrote page at (wire_numbers set) after end
  wires-all after end i h w = subst (λ (l : List ℕ). Wrote page at (wire_numbers l) after end) (take_all i set h) w
