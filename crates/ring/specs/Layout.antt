-- A packet in the ring (Table 6 of 003): a header of four bytes, the MCTP packet, padding. The header is a word with
-- its highest byte first (003, 4.2).
-- Assumes nothing.
use Rattle.std.specs.Prelude.{◌≡◌, ℕ, ◌+◌, ◌-◌, ◌*◌, ◌/◌, ◌%◌, ◌<◌, List, ◌++◌, length, take, drop, replicate}
use Rattle.octets.specs.Words.{high_first, word_at, word_bytes}

-- bytes "0:2" and "3" of Table 6, as one word, in a list that starts at the packet
abbrev pub header_at : List ℕ → ℕ
header_at s = word_at high_first s 0

-- "[23:2] Packet Length (PKT_LEN)", of the first three bytes
abbrev pub length_field : ℕ → ℕ
length_field header = header / 1024

-- "[1:0] Packet padding (PKT_PAD): Number of padding bytes", of the first three bytes
abbrev pub padding_field : ℕ → ℕ
padding_field header = header / 256 % 4

-- "[3:0] – Packet type (PKT_TYPE)", of byte 3; "[7:4] – Reserved" is ignored
abbrev pub type_field : ℕ → ℕ
type_field header = header % 16

-- "0100b – MCTP over MMBI"
abbrev pub mctp_type : ℕ
mctp_type = 4

-- "The size of the packet, calculated as PKT_LEN+1 multiplied by 4 bytes": header and padding are counted
abbrev pub whole_of : ℕ → ℕ
whole_of header = (length_field header + 1) * 4

-- how many bytes the MCTP packet has: the whole without its header and its padding
abbrev pub size_of : ℕ → ℕ
size_of header = whole_of header - 4 - padding_field header

-- the MCTP packet, in a list that starts at its header
unfoldable pub packet_of : List ℕ → List ℕ
packet_of s = take (size_of (header_at s)) (drop 4 s)

-- "padding to a multiple of 4", for a packet of n bytes
abbrev pub padding_for : ℕ → ℕ
padding_for n = (4 - n % 4) % 4

-- all that a packet of n bytes takes up in the ring
abbrev pub whole_for : ℕ → ℕ
whole_for n = 4 + n + padding_for n

-- the header for a packet of n bytes: PKT_LEN + 1 times 4 is the whole
unfoldable pub header_for : ℕ → ℕ
header_for n = (whole_for n / 4 - 1) * 1024 + padding_for n * 256 + mctp_type

-- "the header of Table 6 of 003, with MCTP's type, then the MCTP packet, then padding to a multiple of 4, zero when
-- written"
unfoldable pub ring_bytes : List ℕ → List ℕ
ring_bytes packet =
    word_bytes high_first (header_for (length packet)) ++ (packet ++ replicate (padding_for (length packet)) 0)

-- as any maker may write it: "[7:4] – Reserved" of byte 3, and padding of any bytes
abbrev pub ring_with : ℕ → List ℕ → List ℕ → List ℕ
ring_with reserved packet padding =
    word_bytes high_first (header_for (length packet) + 16 * reserved) ++ (packet ++ padding)

-- a list that starts with this packet, laid out so
pub record RingLayout (s packet : List ℕ) : Type 0 where
  pub reserved : ℕ
  pub padding : List ℕ
  pub four_bits : reserved < 16
  pub padded : length padding ≡ padding_for (length packet)
  pub laid_out : take (whole_for (length packet)) s ≡ ring_with reserved packet padding
