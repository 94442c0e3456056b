use Rattle.dt_map.specs.Summary.{Summary, summary_of}
use Rattle.dt_map.specs.Typemap.{Marked}
use Rattle.dt_offsets.specs.Reach.{capped}

-- a summary whose sizes and number of entries stand still at the greatest number of 64 bits
abbrev pub capped_sums : Summary → Summary
capped_sums s = record {
  size = capped s.size;
  ext_size = capped s.ext_size;
  elements = capped s.elements;
  align = s.align;
  span = s.span;
  marks = s.marks;
}

-- what bounds are made of, however many entries there are
abbrev pub digest_of : Marked → Summary
digest_of m = capped_sums (summary_of m)
