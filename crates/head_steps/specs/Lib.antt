pub mod HeadByte
