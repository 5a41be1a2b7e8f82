-- What holds of escaped text: it prints, and it tells the bytes.
use Rattle.std.proofs.Common.{◌≡◌, ℕ, ◌+◌, ◌-◌, ◌*◌, ◌/◌, ◌%◌, ◌<◌, ◌≤◌, false, cond, eqb, ltb, leb, List, [], ◌∷◌, ◌++◌, sym, refl, ap, ◌∙◌, mod-lt, arith, lit<, lit≤}
use Rattle.digits.specs.Digits.{hex_digit, byte_digits}
use Rattle.rows.specs.Escapes.{prints, escaped_byte, escaped_of, Printable}
use Rattle.std.proofs.ByRecursion.{All-append}
use Rattle.std.proofs.lemmas.Bool.{cond_both, cond-false, eqb-true, leb-true, and_parts}
use Rattle.std.proofs.lemmas.Bool.Decides.{nat_tests}
use Rattle.std.specs.List.{AllByRecursion}

abbrev Prints : ℕ → Type 0
Prints byte = (32 ≤ byte) × (byte ≤ 126)

digit-prints : (d : ℕ) → d < 16 → Prints (hex_digit d)
digit-prints d h = grind (arith, nat_tests)

-- What holds of each way to write a byte holds of the way that is taken.
escaped-cases : (byte : ℕ) (P : List ℕ → Type 0) → (byte ≡ 92 → P (92 ∷ 92 ∷ [])) → (byte ≡ 10 → P (92 ∷ 110 ∷ []))
    → (eqb byte 92 ≡ false → Prints byte → P (byte ∷ [])) → P (92 ∷ 120 ∷ byte_digits byte) → P (escaped_byte byte)
escaped-cases byte P backslash newline itself hex =
    cond_both (eqb byte 92) (92 ∷ 92 ∷ []) _ P
    (λ e. backslash (eqb-true byte 92 e))
    (λ other. cond_both (eqb byte 10) (92 ∷ 110 ∷ []) _ P
    (λ e. newline (eqb-true byte 10 e))
    (λ _. cond_both (prints byte) (byte ∷ []) (92 ∷ 120 ∷ byte_digits byte) P
    (λ e. let p = and_parts (leb 32 byte) (leb byte 126) e in itself other (leb-true 32 byte p.0, leb-true byte 126 p.1))
    (λ _. hex)))

byte-printable : (byte : ℕ) → Printable (escaped_byte byte)
byte-printable byte =
    let backslash : Prints 92 = (lit≤ tt, lit≤ tt) in
    let high = digit-prints (byte / 16 % 16) (mod-lt (byte / 16) (lit< tt)) in
    let low = digit-prints (byte % 16) (mod-lt byte (lit< tt)) in
    escaped-cases byte Printable
    (λ _. (backslash, (backslash, tt)))
    (λ _. (backslash, ((lit≤ tt, lit≤ tt), tt)))
    (λ _ p. (p, tt))
    (backslash, ((lit≤ tt, lit≤ tt), (high, (low, tt))))

pub escaped-printable : (bytes : List ℕ) → Printable (escaped_of bytes)
escaped-printable [] = tt
escaped-printable (byte ∷ bytes) = All-append Prints (escaped_byte byte) (escaped_of bytes) (byte-printable byte) (escaped-printable bytes)

-- A reader that takes one byte off a text. Past the end it reads 256, which is no byte.
abbrev digit_value : ℕ → ℕ
digit_value code = cond (ltb code 58) (code - 48) (code - 55)

abbrev read_pair : List ℕ → ℕ × List ℕ
read_pair [] = (256, [])
read_pair (high ∷ []) = (256, [])
read_pair (high ∷ (low ∷ rest)) = (16 * digit_value high + digit_value low, rest)

abbrev read_escape : List ℕ → ℕ × List ℕ
read_escape [] = (256, [])
read_escape (code ∷ rest) = cond (eqb code 92) (92, rest) (cond (eqb code 110) (10, rest) (read_pair rest))

abbrev read_byte : List ℕ → ℕ × List ℕ
read_byte [] = (256, [])
read_byte (code ∷ rest) = cond (eqb code 92) (read_escape rest) (code, rest)

value-digit : (d : ℕ) → d < 16 → digit_value (hex_digit d) ≡ d
value-digit d h = grind (arith, nat_tests)

value-byte : (byte : ℕ) → byte < 256 → 16 * digit_value (hex_digit (byte / 16 % 16)) + digit_value (hex_digit (byte % 16)) ≡ byte
value-byte byte h =
    let high = value-digit (byte / 16 % 16) (mod-lt (byte / 16) (lit< tt)) in
    let low = value-digit (byte % 16) (mod-lt byte (lit< tt)) in
    omega (arith, high, low)

-- It reads the byte that was escaped.
read-escaped : (byte : ℕ) (rest : List ℕ) → byte < 256 → read_byte (escaped_byte byte ++ rest) ≡ (byte, rest)
read-escaped byte rest h =
    let Reads : List ℕ → Type 0 = λ text. read_byte (text ++ rest) ≡ (byte, rest) in
    let with_rest : ℕ → ℕ × List ℕ = λ n. (n, rest) in
    escaped-cases byte Reads
    (λ e. ap with_rest (sym e))
    (λ e. ap with_rest (sym e))
    (λ other _. cond-false (eqb byte 92) (read_escape rest) (byte, rest) other)
    (ap with_rest (value-byte byte h))

abbrev Bytes : List ℕ → Type 0
Bytes bytes = AllByRecursion (λ byte. byte < 256) bytes

pub escaped-tells : (bytes other : List ℕ) → Bytes bytes → Bytes other → escaped_of other ≡ escaped_of bytes → other ≡ bytes
escaped-tells [] [] hs ks e = refl
escaped-tells [] (o ∷ os) hs ks e =
    let p = ap (λ q. q.0) (sym (read-escaped o (escaped_of os) ks.0) ∙ ap read_byte e) in absurd (omega (arith, p, ks.0))
escaped-tells (b ∷ bs) [] hs ks e =
    let p = ap (λ q. q.0) (ap read_byte e ∙ read-escaped b (escaped_of bs) hs.0) in absurd (omega (arith, p, hs.0))
escaped-tells (b ∷ bs) (o ∷ os) hs ks e =
    let p = sym (read-escaped o (escaped_of os) ks.0) ∙ ap read_byte e ∙ read-escaped b (escaped_of bs) hs.0 in
    let rest = escaped-tells bs os hs.1 ks.1 (ap (λ q. q.1) p) in
    λ i. (p i).0 ∷ rest i
