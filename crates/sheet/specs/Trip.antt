-- Law: the return trip, rule S11, as statements: first of any lawful layout, then of what the public entries answer and leave. `TripRule`, at the end, has them all;
-- `proofs/Rules` proves it. Definitions only.
use Rattle.std.specs.Prelude.{◌≡◌, ℕ, ◌+◌, ◌*◌, ◌/◌, ◌^◌, ◌≤◌, length, take, drop}
use mathlib.Core.List.{List, ◌++◌, flat_map}
use Rattle.params.specs.Limits.{max_side}
use Rattle.params.specs.Answers.{Done}
use Rattle.sheet.specs.Pack.{Bytes}
use Rattle.sheet.specs.Layout.{Layout, Frame, layout_of, mark_bits, top_rule}
use Rattle.sheet.specs.Sheet.{parts, read_frame}
use Rattle.sheet.specs.Words.{read_words, taken_words, with_blank}
use Rattle.sheet.specs.Writes.{frame_of, count_in, records_of, layout_fault, written, write_answer, write_out}
use Rattle.sheet.specs.Reads.{read_fault, words_in, read_answer, read_out}

-- What the trip asks of a layout: the edition's number fits its four bits, and the sides leave room for the other fields of header and record.
pub record Lawful (l : Layout) : Type 0 where
  pub edition : l.edition ≤ 15
  pub side : 2 * l.side + mark_bits l ≤ 32

-- the words of records that the reader gave, as the writer takes them: without the added word, where the layout has no bit for it
unfoldable pub handed_back : Layout → List ℕ → List ℕ
handed_back l ws = flat_map (take (taken_words l)) (parts read_words (length ws / read_words) ws)

-- 1. What the writer accepts is accepted by the reader, which gives back the frame and each record, with the added word.
abbrev pub ReadsBack : Layout → Type 0
ReadsBack l =
    (f : Frame) (ws : List ℕ) → f.rule ≤ top_rule l → layout_fault l f ws ≡ 0 →
    (read_fault l (written l f ws) ≡ 0) × (read_frame l (written l f ws) ≡ f) × (words_in l (written l f ws) ≡ flat_map (with_blank l) (records_of l ws))

-- 2. Bytes that the reader accepts are those that the writer makes of the frame and the records that the reader gave; and the writer accepts these,
-- where the layout can state no side above the limit.
abbrev pub WritesBack : Layout → Type 0
WritesBack l =
    (bs : List ℕ) → Bytes bs → read_fault l bs ≡ 0 →
    (written l (read_frame l bs) (handed_back l (words_in l bs)) ≡ bs) × (2 ^ l.side ≤ max_side → layout_fault l (read_frame l bs) (handed_back l (words_in l bs)) ≡ 0)

-- 3. Bytes that read the same are the same.
abbrev pub ReadsOnce : Layout → Type 0
ReadsOnce l =
    (cs bs : List ℕ) → Bytes cs → Bytes bs → read_fault l cs ≡ 0 → read_fault l bs ≡ 0 →
    read_frame l cs ≡ read_frame l bs → words_in l cs ≡ words_in l bs → cs ≡ bs

-- Of the public entries, for every edition at once. 1: `write_sheet` answered that it wrote n bytes; `read_sheet` on these n, with room, answers the edition, the frame and
-- the count and gives the records.
abbrev pub WrittenIsRead : Type 0
WrittenIsRead =
    (edition width height layers : ℕ) (words out room : List ℕ) (n : ℕ) →
    write_answer edition (frame_of width height layers) words (length out) ≡ Done n →
    read_words * count_in (layout_of edition) words ≤ length room →
    (read_answer (take n (write_out edition (frame_of width height layers) words out)) (length room)
    ≡ record { answer = Done (count_in (layout_of edition) words); edition = edition; width = width; height = height; layers = layers })
    × (read_out (take n (write_out edition (frame_of width height layers) words out)) room
    ≡ flat_map (with_blank (layout_of edition)) (records_of (layout_of edition) words) ++ drop (read_words * count_in (layout_of edition) words) room)

-- 2: `read_sheet` answered that it gave n records; `write_sheet` on what it answered and gave, with room, writes the sheet again.
abbrev pub ReadIsWritten : Type 0
ReadIsWritten =
    (sheet room out : List ℕ) (edition width height layers n : ℕ) → Bytes sheet →
    read_answer sheet (length room) ≡ record { answer = Done n; edition = edition; width = width; height = height; layers = layers } →
    length sheet ≤ length out →
    (write_answer edition (frame_of width height layers) (handed_back (layout_of edition) (take (read_words * n) (read_out sheet room))) (length out) ≡ Done (length sheet))
    × (write_out edition (frame_of width height layers) (handed_back (layout_of edition) (take (read_words * n) (read_out sheet room))) out
    ≡ sheet ++ drop (length sheet) out)

-- 3: two sheets for which `read_sheet` answers the same n records and gives the same words are the same bytes.
abbrev pub ReadOnce : Type 0
ReadOnce =
    (one other room : List ℕ) (edition width height layers n : ℕ) → Bytes one → Bytes other →
    read_answer one (length room) ≡ record { answer = Done n; edition = edition; width = width; height = height; layers = layers } →
    read_answer other (length room) ≡ record { answer = Done n; edition = edition; width = width; height = height; layers = layers } →
    read_out one room ≡ read_out other room → one ≡ other

-- All of it: every lawful layout makes the trip, that of each edition is lawful, and so the public entries make it.
pub record TripRule : Type 0 where
  pub reads_back : (l : Layout) → Lawful l → ReadsBack l
  pub writes_back : (l : Layout) → Lawful l → WritesBack l
  pub reads_once : (l : Layout) → Lawful l → ReadsOnce l
  pub editions_lawful : (edition : ℕ) → Lawful (layout_of edition)
  pub written_is_read : WrittenIsRead
  pub read_is_written : ReadIsWritten
  pub read_once : ReadOnce
