mod Links
mod Tables
