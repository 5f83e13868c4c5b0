use Rattle.std.proofs.Common.{refl, arith}
use Rattle.orient_peaks.specs.Peaks.{peak_of}
use Rattle.orient_peaks.proofs.Fill.{filled_none, filled_more, filled_pass, peak_short, peak_yes, peak_none, peaks_held}
use Rattle.orient_peaks.proofs.angles_in.Goals.{then-is_peak, else-is_peak}
use Rattle.orient_peaks.proofs.angles_in.Goals as goal

pub loop-j-init : goal.loop-j-init
loop-j-init c = record { long = refl; clean = refl; least = c.least_of-least.ensures; filled = filled_none _ _ (peak_short _ _) }

pub loop-j-preserved : goal.loop-j-preserved
loop-j-preserved c =
    let i = c.loop-j.invariant in
    let p = c.is_peak in
    let h = c.args.h.now in
    let t = c.least_of-least.result in
    record {
      long = refl;
      clean = refl;
      least = i.least;
      filled =
          elim c.if-is_peak.branch [
            | then-is_peak w ↦ rw (w.all-is, w.count-is) (filled_more (peak_of h t) w.peak_angle.result i.filled (peak_yes h t c.loop-j.j p.result w.peak_angle.result p.ensures w.if-is_peak.true w.peak_angle.ensures) (omega arith))
            | else-is_peak w ↦ rw (w.all-is, w.count-is) (filled_pass (peak_of h t) i.filled (peak_none h t c.loop-j.j p.result p.ensures w.if-is_peak.false))
          ];
    }

pub returns : goal.returns
returns c =
    let i = c.loop-j.invariant in
    peaks_held _ _ i.least i.clean i.filled (omega arith)
