-- Inner: how much this program has room for. Definitions only.
use Rattle.std.specs.Prelude.{ℕ}

-- the keypoints of a layer's list, the directions of a keypoint, and the records
abbrev pub most_found : ℕ
most_found = 32

abbrev pub most_peaks : ℕ
most_peaks = 18

abbrev pub most_records : ℕ
most_records = 64

-- the words of all records, 139 each, and the bytes of their sheet, 8 and 154 for each
abbrev pub records_words : ℕ
records_words = 8896

abbrev pub sheet_bytes : ℕ
sheet_bytes = 9864

-- the samples of the three Gaussian planes of 44 rows of 56, and the columns of the table that is printed
abbrev pub picture_samples : ℕ
picture_samples = 7392

abbrev pub columns : ℕ
columns = 12
