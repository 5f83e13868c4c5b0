-- The return trip, whole. Assumes nothing.
use Rattle.sheet.specs.Trip.{TripRule}
use Rattle.sheet.proofs.Lawful.{lawful_edition}
use Rattle.sheet.proofs.Return.{reads_back, writes_back, reads_once}
use Rattle.sheet.proofs.Public.{written_is_read, read_is_written, read_once}

pub trip_rule : TripRule
trip_rule =
    record {
      reads_back = reads_back;
      writes_back = writes_back;
      reads_once = reads_once;
      editions_lawful = lawful_edition;
      written_is_read = written_is_read;
      read_is_written = read_is_written;
      read_once = read_once;
    }
