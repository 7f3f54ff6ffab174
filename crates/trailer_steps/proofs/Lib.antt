pub mod KeptTrailer
